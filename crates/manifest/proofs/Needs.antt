-- The two counts of `need`, region by region.
use Rattle.std.proofs.Common.{◌≡◌, ℕ, suc, ◌+◌, ◌-◌, ◌/◌, ◌<◌, ◌≤◌, Bool, true, false, List, ◌∷◌, length, get_or, drop, None, is_some, ap, sym, ◌∙◌, arith}
use Rattle.std.proofs.lemmas.Bool.{and_parts, leb-true}
use Rattle.std.proofs.Math.Seq.{drop-cons}
use Rattle.std.proofs.lemmas.List.{drop_all}
use Rattle.base.specs.Pages.{IsRun}
use Rattle.base.specs.Access.{View}
use Rattle.base.specs.Counts.{count_below}
use Rattle.base.specs.Need.{is_mixed, is_reached}
use Rattle.base.specs.Manifest.{RegionRow, granted_in}
use Rattle.manifest.specs.Valid.{begin_from, granted_by, is_region}
use Rattle.manifest.specs.Boundaries.{Tally, added, passed}
use Rattle.manifest.proofs.Tables.{boundary-none}
use Rattle.manifest.proofs.Counting.{Counts, Mixed, Reached, count_below-le, mixed-start, mixed-pass, mixed-end, reached-start, reached-none_to, reached-some_to, reached-end}
use Rattle.manifest.proofs.Regions.{Passed, passed-start, passed-next, begins_at, granted-gap, granted-within, granted-after}

pub rest_at : (rs : List RegionRow) (i : ℕ) (r : RegionRow) → r ≡ get_or rs i r → i < length rs → drop i rs ≡ r ∷ drop (i + 1) rs
rest_at rs i r is below = drop-cons rs i r below ∙ ap (λ x. x ∷ drop (suc i) rs) (sym is) ∙ (let next : suc i ≡ i + 1 = omega arith in ap (λ k. r ∷ drop k rs) next)

pub run_of-region : (r : RegionRow) → is_region r ≡ true → IsRun r.pages
run_of-region r e =
    let whole = and_parts _ _ (and_parts _ _ (and_parts _ _ (and_parts _ _ (and_parts _ _ e).0).0).0).0 in
    (leb-true _ _ whole.0, leb-true _ _ whole.1)

tally-le : (f : ℕ → Bool) (t : Tally) → Counts f t → t.count ≤ t.next
tally-le f t counts = omega (arith, counts.is, count_below-le f t.next)

-- ---- mixed chunks

-- the boundaries of the regions before one were looked at
pub record MixedUpTo (rs : List RegionRow) (p i : ℕ) (t : Tally) : Type 0 where
  pub position : ℕ
  pub regions : Passed rs i position
  pub mixed : Mixed (granted_by rs p) position t

pub mixed_up_to-start : (rs : List RegionRow) (p : ℕ) → begin_from 0 rs ≡ true → MixedUpTo rs p 0 (record { count = 0; next = 0 })
mixed_up_to-start rs p e = record { position = 0; regions = passed-start rs e; mixed = mixed-start (granted_by rs p) }

-- what a look at a boundary asks
pub record MayPass (page : ℕ) (t : Tally) : Type 0 where
  pub upward : t.next ≤ page / 512 + 1
  pub in_range : t.count ≤ t.next

may_pass : (view : ℕ → View) (position page : ℕ) (t : Tally) → position ≤ page → Mixed view position t → MayPass page t
may_pass view position page t rise before = record { upward = omega (arith, before.near); in_range = tally-le (is_mixed view) t before.counts }

pub may_pass-first : (rs : List RegionRow) (p i : ℕ) (t : Tally) (r : RegionRow) → MixedUpTo rs p i t → drop i rs ≡ r ∷ drop (i + 1) rs → MayPass r.pages.first t
may_pass-first rs p i t r before whole =
    let b = begins_at rs i before.position r (drop (i + 1) rs) before.regions whole in
    may_pass (granted_by rs p) before.position r.pages.first t b.0 before.mixed

mixed-first : (rs : List RegionRow) (p i : ℕ) (t : Tally) (r : RegionRow) (before : MixedUpTo rs p i t) → drop i rs ≡ r ∷ drop (i + 1) rs → Mixed (granted_by rs p) r.pages.first (passed (granted_by rs p) r.pages.first t)
mixed-first rs p i t r before whole =
    let b = begins_at rs i before.position r (drop (i + 1) rs) before.regions whole in
    let gap = granted-gap rs i before.position r (drop (i + 1) rs) p in
    mixed-pass (granted_by rs p) before.position r.pages.first t b.0
    (λ n after below. boundary-none (granted_by rs p) n None (gap (n - 1) before.regions whole (omega arith) (omega arith)) (gap n before.regions whole (omega arith) below))
    before.mixed

pub may_pass-end : (rs : List RegionRow) (p i : ℕ) (t : Tally) (r : RegionRow) → MixedUpTo rs p i t → drop i rs ≡ r ∷ drop (i + 1) rs → MayPass (r.pages.first + r.pages.count) (passed (granted_by rs p) r.pages.first t)
may_pass-end rs p i t r before whole =
    may_pass (granted_by rs p) r.pages.first (r.pages.first + r.pages.count) (passed (granted_by rs p) r.pages.first t) (omega arith) (mixed-first rs p i t r before whole)

pub mixed_up_to-next : (rs : List RegionRow) (p i : ℕ) (t : Tally) (r : RegionRow) → IsRun r.pages → MixedUpTo rs p i t → drop i rs ≡ r ∷ drop (i + 1) rs
    → MixedUpTo rs p (i + 1) (passed (granted_by rs p) (r.pages.first + r.pages.count) (passed (granted_by rs p) r.pages.first t))
mixed_up_to-next rs p i t r run before whole =
    let view : ℕ → View = granted_by rs p in
    let within = granted-within rs i before.position r (drop (i + 1) rs) p in
    record {
      position = r.pages.first + r.pages.count;
      regions = passed-next rs i before.position r before.regions whole run;
      mixed = mixed-pass (granted_by rs p) r.pages.first (r.pages.first + r.pages.count) (passed (granted_by rs p) r.pages.first t) (omega arith)
          (λ n after below. boundary-none (granted_by rs p) n (granted_in r p) (within (n - 1) before.regions whole (omega arith) (omega arith)) (within n before.regions whole (omega arith) below))
          (mixed-first rs p i t r before whole);
    }

pub mixed_up_to-end : (rs : List RegionRow) (p i : ℕ) (t : Tally) → length rs ≤ i → MixedUpTo rs p i t → t.count ≡ count_below (is_mixed (granted_by rs p)) 262144
mixed_up_to-end rs p i t past before =
    let rest = drop_all i rs past in
    let none = granted-after rs i before.position p in
    mixed-end (granted_by rs p) before.position t before.regions.inside
    (λ n after. boundary-none (granted_by rs p) n None (none (n - 1) before.regions rest (omega arith)) (none n before.regions rest (omega arith)))
    before.mixed

-- ---- reached gigabytes

-- the pages of the regions before one were looked at
pub record ReachedUpTo (rs : List RegionRow) (p i : ℕ) (t : Tally) : Type 0 where
  pub position : ℕ
  pub regions : Passed rs i position
  pub reached : Reached (granted_by rs p) position t

pub reached_up_to-start : (rs : List RegionRow) (p : ℕ) → begin_from 0 rs ≡ true → ReachedUpTo rs p 0 (record { count = 0; next = 0 })
reached_up_to-start rs p e = record { position = 0; regions = passed-start rs e; reached = reached-start (granted_by rs p) }

-- what counting the gigabytes of a run asks
pub record MayAdd (first end : ℕ) (t : Tally) : Type 0 where
  pub upward : t.next ≤ (end - 1) / 262144 + 1
  pub in_range : t.count ≤ t.next

reached-first : (rs : List RegionRow) (p i : ℕ) (t : Tally) (r : RegionRow) (before : ReachedUpTo rs p i t) → drop i rs ≡ r ∷ drop (i + 1) rs → Reached (granted_by rs p) r.pages.first t
reached-first rs p i t r before whole =
    let b = begins_at rs i before.position r (drop (i + 1) rs) before.regions whole in
    reached-none_to (granted_by rs p) before.position r.pages.first t b.0
    (λ n from below. ap (λ a. is_some a) (granted-gap rs i before.position r (drop (i + 1) rs) p n before.regions whole from below))
    before.reached

pub may_add : (rs : List RegionRow) (p i : ℕ) (t : Tally) (r : RegionRow) → IsRun r.pages → ReachedUpTo rs p i t → drop i rs ≡ r ∷ drop (i + 1) rs → MayAdd r.pages.first (r.pages.first + r.pages.count) t
may_add rs p i t r run before whole =
    let first = reached-first rs p i t r before whole in
    record { upward = omega (arith, first.near, run.0); in_range = tally-le (is_reached (granted_by rs p)) t first.counts }

pub reached_up_to-some : (rs : List RegionRow) (p i : ℕ) (t : Tally) (r : RegionRow) → IsRun r.pages → is_some (granted_in r p) ≡ true → ReachedUpTo rs p i t → drop i rs ≡ r ∷ drop (i + 1) rs
    → ReachedUpTo rs p (i + 1) (added (r.pages.first / 262144) ((r.pages.first + r.pages.count - 1) / 262144 + 1) t)
reached_up_to-some rs p i t r run some before whole = record {
  position = r.pages.first + r.pages.count;
  regions = passed-next rs i before.position r before.regions whole run;
  reached = reached-some_to (granted_by rs p) r.pages.first (r.pages.first + r.pages.count) t (omega (arith, run.0))
      (λ n from below. ap (λ a. is_some a) (granted-within rs i before.position r (drop (i + 1) rs) p n before.regions whole from below) ∙ some)
      (reached-first rs p i t r before whole);
}

pub reached_up_to-none : (rs : List RegionRow) (p i : ℕ) (t : Tally) (r : RegionRow) → IsRun r.pages → is_some (granted_in r p) ≡ false → ReachedUpTo rs p i t → drop i rs ≡ r ∷ drop (i + 1) rs → ReachedUpTo rs p (i + 1) t
reached_up_to-none rs p i t r run none before whole = record {
  position = r.pages.first + r.pages.count;
  regions = passed-next rs i before.position r before.regions whole run;
  reached = reached-none_to (granted_by rs p) r.pages.first (r.pages.first + r.pages.count) t (omega arith)
      (λ n from below. ap (λ a. is_some a) (granted-within rs i before.position r (drop (i + 1) rs) p n before.regions whole from below) ∙ none)
      (reached-first rs p i t r before whole);
}

pub reached_up_to-end : (rs : List RegionRow) (p i : ℕ) (t : Tally) → length rs ≤ i → ReachedUpTo rs p i t → t.count ≡ count_below (is_reached (granted_by rs p)) 512
reached_up_to-end rs p i t past before =
    let rest = drop_all i rs past in
    reached-end (granted_by rs p) before.position t before.regions.inside
    (λ n from. ap (λ a. is_some a) (granted-after rs i before.position p n before.regions rest from))
    before.reached

pub count-le : (f : ℕ → Bool) (n count : ℕ) → count ≡ count_below f n → count ≤ n
count-le f n count is = omega (arith, is, count_below-le f n)
