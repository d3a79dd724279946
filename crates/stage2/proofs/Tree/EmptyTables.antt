-- Tables of words that are all 0: nothing hangs but the roots, and nothing is mapped.
use Rattle.stage2.proofs.Names.{nat_tests, page_count, Pages, Layout, slot, walk, walk_across, Place, Root, Gigabyte, Chunk, next_page, chunk_table, table_at, common_steps, Unmapped, ◌≡◌, ℕ, ◌+◌, ◌/◌, ◌^◌, ◌<◌, ◌≤◌, true, Some, None, length, ap, ◌∙◌, arith}
use Rattle.stage2.specs.Sound.{IsSound}
use Rattle.stage2.proofs.Walkers.Level3Write.{slot-zero}

module _ (layout : Layout) (m : Pages) (zero : (page index : ℕ) → m.words page index ≡ 0) where
  empty_slot : (level page index : ℕ) → next_page (slot layout level (m.words page index)) ≡ None
  empty_slot level page index = ap (λ w. next_page (slot layout level w)) (zero page index) ∙ ap next_page (slot-zero layout level)

  pub no_gigabyte : (row g : ℕ) → table_at layout m.words (Gigabyte row g) ≡ None
  unfolding table_at
  no_gigabyte row g = empty_slot 1 row g

  pub no_chunk : (row c : ℕ) → table_at layout m.words (Chunk row c) ≡ None
  unfolding table_at
  no_chunk row c = ap (chunk_table layout m.words c) (empty_slot 1 row (c / 512))

  pub unmapped : (row n : ℕ) → walk layout m.words row n ≡ Unmapped
  unfolding walk_across
  unmapped row n = grind (arith, common_steps, nat_tests, slot-zero)

  -- a table that hangs is a root
  is_root : (a : Place) (q : ℕ) → table_at layout m.words a ≡ Some q → a ≡ Root q
  unfolding table_at
  is_root a q e = grind (arith, common_steps, nat_tests, no_gigabyte, no_chunk)

  pub sound_zero : layout.ids ≡ m.ids → layout.pages ≡ page_count m.quotas → length layout.ids ≡ length m.quotas → layout.base + layout.pages ≤ 2 ^ 27 → ((row : ℕ) → row < length m.quotas → m.taken row ≡ true) → IsSound layout m
  sound_zero ids pages rows fits roots = grind (arith, common_steps, nat_tests, is_root, unmapped)
