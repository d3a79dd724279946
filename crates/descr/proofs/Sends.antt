-- A send is the bytes that keep each of its rules.
use Rattle.std.proofs.Common.{◌≡◌, ℕ, ◌+◌, Bool, true, false, ◌&&◌, List, refl, ap₂, ◌∙◌}
use Rattle.base.specs.declared.partition.Version.{Version}
use Rattle.base.specs.Pages.{PageRun, are_disjoint}
use Rattle.base.specs.Descriptors.Send.{has_layout, is_header, is_send, are_ranges, range_count, composite_at, ranges_of, ranges_at, is_composite}
use Rattle.descr.specs.Parts.{has_receivers, has_memory, is_composite_of}
use Rattle.descr.proofs.Tests.{and-false}

regroup : (f a r d k : Bool) → ((((f && a) && r) && d) && k) ≡ ((f && a) && ((r && d) && k))
regroup true true r d k = refl
regroup true false r d k = refl
regroup false a r d k = refl

module _ (version : Version) (bytes : List ℕ) where
  pub is_send-parts : is_send version bytes ≡ (((has_layout version bytes && is_header version bytes) && has_receivers version bytes) && has_memory version bytes)
  unfolding is_send
  is_send-parts = regroup (has_layout version bytes && is_header version bytes) (has_receivers version bytes) (are_ranges (range_count version bytes) bytes (composite_at version bytes + 16)) (are_disjoint (ranges_of version bytes)) (is_composite version bytes)

  pub not_send-layout : has_layout version bytes ≡ false → is_send version bytes ≡ false
  not_send-layout h = is_send-parts ∙ rw h refl

  pub not_send-header : is_header version bytes ≡ false → is_send version bytes ≡ false
  not_send-header h = is_send-parts ∙ rw (h, and-false) refl

  pub not_send-receivers : has_receivers version bytes ≡ false → is_send version bytes ≡ false
  not_send-receivers h = is_send-parts ∙ rw (h, and-false) refl

  pub not_send-memory : has_memory version bytes ≡ false → is_send version bytes ≡ false
  not_send-memory h = is_send-parts ∙ rw (h, and-false) refl

  pub is_send-true : has_layout version bytes ≡ true → is_header version bytes ≡ true → has_receivers version bytes ≡ true → has_memory version bytes ≡ true → is_send version bytes ≡ true
  is_send-true l h r m = is_send-parts ∙ rw (l, h, r, m) refl

  module _ (at count : ℕ) (ranges : List PageRun) (is_at : at ≡ composite_at version bytes) (is_count : count ≡ range_count version bytes) (is_ranges : ranges ≡ ranges_at count bytes (at + 16)) where
    pub ranges-same : ranges ≡ ranges_of version bytes
    ranges-same = is_ranges ∙ ap₂ (λ n x. ranges_at n bytes (x + 16)) is_count is_at

    pub has_memory-parts : has_memory version bytes ≡ ((are_ranges count bytes (at + 16) && are_disjoint ranges) && is_composite_of bytes at ranges)
    unfolding is_composite
    has_memory-parts = rw (ranges-same, is_at, is_count) refl
