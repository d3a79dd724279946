-- The edits of the gigabytes of a row, one after another, as walks under way see them.
use Rattle.std.proofs.Common.{◌^◌, ◌≡◌, ℕ, ◌+◌, ◌*◌, ◌/◌, ◌<◌, Bool, true, ◌&&◌, eqb, ltb, List, length, arith, ap, inr}
use Rattle.stage2.proofs.Names.{nat_tests, PageRun, View, Pool, Pages, Layout, walked, is_mixed, answers, edited, AreFree, Turns, disturbed, IsPast, StaysInStep, common_steps, eqb-true}
use Rattle.stage2.proofs.Editing.GigabyteByGigabyte.{still-answers, still-edited}
use Rattle.stage2.proofs.Counting.Needs.{mixed-same}
use Rattle.stage2.proofs.Walkers.ZeroedTables.{stays-wider, stays-more}
use Rattle.base.proofs.Booleans.{both}

-- the pages that the edit of a row's gigabytes before the i-th may disturb
abbrev pub disturbed_before : ℕ → List PageRun → (ℕ → View) → (ℕ → View) → ℕ → Bool
disturbed_before i runs before after n = ltb (n / 512 / 512) i && disturbed runs before after n

module _ (layout : Layout) (row : ℕ) (runs : List PageRun) (access : View) (old : Pages) (inside : row < length layout.ids) (g : ℕ) (lt : g < 512) (mid : Pages) (h : IsPast layout row g (edited runs access (answers layout old.words row)) old mid) where
  pub cross-free : AreFree (λ n. true) runs access (answers layout old.words row) → AreFree (λ n. eqb (n / 512 / 512) g) runs access (answers layout mid.words row)
  cross-free free n small at covered = grind (arith, common_steps, nat_tests, still-answers)

  pub cross-turns : Turns (λ n. ltb n (2 ^ 27)) runs access (answers layout old.words row) → Turns (λ n. eqb (n / 512 / 512) g) runs access (answers layout mid.words row)
  cross-turns turns n at covered = grind (arith, common_steps, nat_tests, still-answers)

  pub cross-edit : (a b c : Pool)
      → StaysInStep layout row (disturbed_before g runs (answers layout old.words row) (edited runs access (answers layout old.words row))) (λ n. walked n (edited runs access (answers layout old.words row) n)) a b
      → StaysInStep layout row (λ n. eqb (n / 512 / 512) g && disturbed runs (answers layout mid.words row) (edited runs access (answers layout mid.words row)) n) (λ n. walked n (edited runs access (answers layout mid.words row) n)) b c
      → StaysInStep layout row (disturbed_before (g + 1) runs (answers layout old.words row) (edited runs access (answers layout old.words row))) (λ n. walked n (edited runs access (answers layout old.words row) n)) a c
  cross-edit a b c so here =
      let v : ℕ → View = answers layout old.words row in
      let w : ℕ → View = edited runs access v in
      let v2 : ℕ → View = answers layout mid.words row in
      let w2 : ℕ → View = edited runs access v2 in
      let told : StaysInStep layout row (λ n. eqb (n / 512 / 512) g && disturbed runs v w n) (λ n. walked n (w n)) b c =
      stays-wider layout row (λ n. eqb (n / 512 / 512) g && disturbed runs v2 w2 n) (λ n. eqb (n / 512 / 512) g && disturbed runs v w n) (λ n. walked n (w2 n)) (λ n. walked n (w n)) b c here
      (λ n small is.
      let at : n / 512 / 512 ≡ g = eqb-true _ _ (both (eqb (n / 512 / 512) g) (disturbed runs v2 w2 n) is).0 in
      let one : is_mixed v2 (n / 512) ≡ is_mixed v (n / 512) = mixed-same v v2 (n / 512) (λ i below. still-answers layout row runs access old inside g lt mid h (512 * (n / 512) + i) (omega (arith, at, below))) in
      let other : is_mixed w2 (n / 512) ≡ is_mixed w (n / 512) = mixed-same w w2 (n / 512) (λ i below. still-edited layout row runs access old inside g lt mid h (512 * (n / 512) + i) (omega (arith, at, below))) in
      (rw (← one, ← other) is, inr (ap (walked n) (still-edited layout row runs access old inside g lt mid h n at)))) in
      stays-more layout row (disturbed_before g runs v w) (λ n. eqb (n / 512 / 512) g && disturbed runs v w n) (disturbed_before (g + 1) runs v w) (λ n. walked n (w n)) a b c so told
      (λ n small. (grind (arith, common_steps, nat_tests)))

pub cross-all : (layout : Layout) (row i : ℕ) (runs : List PageRun) (before after : ℕ → View) (a b : Pool) → i ≡ 512
    → StaysInStep layout row (disturbed_before i runs before after) (λ n. walked n (after n)) a b → StaysInStep layout row (disturbed runs before after) (λ n. walked n (after n)) a b
cross-all layout row i runs before after a b end so = grind (arith, common_steps, nat_tests, stays-wider, both)
