-- One gigabyte after another, and what a row needs.
use Rattle.std.proofs.Common.{◌≡◌, ℕ, zero, suc, ◌+◌, ◌*◌, ◌/◌, ◌^◌, ◌<◌, ◌≤◌, max, Bool, true, false, not, ◌&&◌, cond, List, get_or, length, refl, arith, ap, ap₂}
use Rattle.stage2.proofs.Names.{nat_tests, PageRun, in_run, covers, View, Pages, used_by, row_quota, count_below, Layout, walk, is_reached, need, grow, IsCanonical, answers, answer_of, edited, gigabyte_operations, sum_below, grows_at, gigabyte_growth, EditsGigabyte, FitsGigabyte, IsPast, EditsRow, FitsRow, Touches, common_steps}
use Rattle.base.specs.Pages.{IsRun}
use Rattle.pool.proofs.Count.{count_below-same, count_below-more}
use Rattle.stage2.proofs.Counting.Operations.{gigabyte-same}
use Rattle.stage2.proofs.Counting.Needs.{reached-same, grows-same}
use Rattle.stage2.proofs.Editing.ChunkByChunk.{sum_below-more, sum_below-up, count_below-add}
use Rattle.stage2.proofs.Editing.FourChunkEdits.{tidy-answer}

-- ---- used is need

pub used-need : (layout : Layout) (m : Pages) (row : ℕ) → IsCanonical layout m → row < length layout.ids → used_by m row ≡ need (answers layout m.words row)
unfolding need
used-need layout m row h inside = grind (arith, common_steps, nat_tests, h.orderly.used row inside, count_below-same, h.reached, h.orderly.mixed)

-- ---- grow, gigabyte by gigabyte

sum-none : (v w : ℕ → View) → sum_below (gigabyte_growth v w) 0 ≡ count_below (λ x. is_reached w x && not (is_reached v x)) 0 + count_below (grows_at v w) (512 * 0)
unfolding sum_below count_below
sum-none v w = refl

sum-step : (v w : ℕ → View) (g : ℕ) → sum_below (gigabyte_growth v w) g ≡ count_below (λ x. is_reached w x && not (is_reached v x)) g + count_below (grows_at v w) (512 * g)
    → sum_below (gigabyte_growth v w) (g + 1) ≡ count_below (λ x. is_reached w x && not (is_reached v x)) (g + 1) + count_below (grows_at v w) (512 * (g + 1))
sum-step v w g rest =
    let f : ℕ → Bool = λ x. is_reached w x && not (is_reached v x) in
    grind (arith, common_steps, nat_tests, sum_below-more (gigabyte_growth v w) g, count_below-more f g, count_below-add (grows_at v w) (512 * g) 512)

sum-growth : (v w : ℕ → View) (g : ℕ) → sum_below (gigabyte_growth v w) g ≡ count_below (λ x. is_reached w x && not (is_reached v x)) g + count_below (grows_at v w) (512 * g)
sum-growth v w zero = sum-none v w
sum-growth v w (suc g) = grind (arith, common_steps, nat_tests, sum-step v w g (sum-growth v w g), sum-growth v w g)

pub grow-sum : (v w : ℕ → View) → sum_below (gigabyte_growth v w) 512 ≡ grow v w
unfolding grow
grow-sum v w = sum-growth v w 512

growth-same : (v w x y : ℕ → View) (g : ℕ) → ((n : ℕ) → n / 512 / 512 ≡ g → x n ≡ v n) → ((n : ℕ) → n / 512 / 512 ≡ g → y n ≡ w n) → gigabyte_growth x y g ≡ gigabyte_growth v w g
growth-same v w x y g same also =
    ap₂ (λ a b. a + b)
    (ap₂ (λ a b. cond (a && not b) 1 0) (reached-same w y g (λ i small. also (262144 * g + i) (omega (arith, small)))) (reached-same v x g (λ i small. same (262144 * g + i) (omega (arith, small)))))
    (grows-same v w x y g same also)

-- ---- from gigabyte to gigabyte

module _ (layout : Layout) (row : ℕ) (runs : List PageRun) (access : View) (old : Pages) (inside : row < length layout.ids) where
  abbrev before : ℕ → View
  before = answers layout old.words row

  abbrev after : ℕ → View
  after = edited runs access (answers layout old.words row)

  module _ (g : ℕ) (lt : g < 512) (mid : Pages) (h : IsPast layout row g (edited runs access (answers layout old.words row)) old mid) where
    still : (n : ℕ) → n < 2 ^ 27 → n / 512 / 512 ≡ g → walk layout mid.words row n ≡ walk layout old.words row n
    still n small at = grind (arith, common_steps, nat_tests)

    pub still-answers : (n : ℕ) → n / 512 / 512 ≡ g → answers layout mid.words row n ≡ before n
    still-answers n at = ap answer_of (still n (omega (arith, lt, at)) at)

    pub still-edited : (n : ℕ) → n / 512 / 512 ≡ g → edited runs access (answers layout mid.words row) n ≡ after n
    still-edited n at = ap (λ a. cond (covers runs n) access a) (still-answers n at)

    growth : gigabyte_growth (answers layout mid.words row) (edited runs access (answers layout mid.words row)) g ≡ gigabyte_growth before after g
    growth = growth-same before after (answers layout mid.words row) (edited runs access (answers layout mid.words row)) g still-answers still-edited

    -- its edit makes as many operations as it would at first
    pub past-operations : gigabyte_operations runs access (answers layout mid.words row) g ≡ gigabyte_operations runs access before g
    past-operations = gigabyte-same runs access before (answers layout mid.words row) g still-answers

    pub past-fits : IsCanonical layout old → FitsRow layout row runs access old → FitsGigabyte layout row g runs access mid
    past-fits canonical f = record {
      fits =
          let up = sum_below-up (gigabyte_growth before after) (g + 1) 512 (omega (arith, lt)) in
          omega (arith, used-need layout old row canonical inside, grow-sum before after, sum_below-more (gigabyte_growth before after) g, up, ap (λ q. row_quota q row) h.quotas, h.used, f.fits, growth);
    }

    pub past-skip : ((n : ℕ) → n / 512 / 512 ≡ g → covers runs n ≡ false) → IsPast layout row (g + 1) (edited runs access (answers layout old.words row)) old mid
    past-skip none = grind (arith, common_steps, nat_tests, still, tidy-answer, sum_below-up)

    pub past-edit : (new : Pages) → EditsGigabyte layout row g (edited runs access (answers layout mid.words row)) mid new → IsPast layout row (g + 1) (edited runs access (answers layout old.words row)) old new
    past-edit new e = grind (arith, common_steps, nat_tests, still-edited, sum_below-more, growth)

  pub past-all : (new : Pages) → IsPast layout row 512 (edited runs access (answers layout old.words row)) old new → EditsRow layout row (edited runs access (answers layout old.words row)) old new
  past-all new h = grind (arith, common_steps, nat_tests)

-- ---- the gigabytes that runs touch

pub covers-at : (runs : List PageRun) (i n : ℕ) (run : PageRun) → i < length runs → run ≡ get_or runs i run → in_run run n ≡ true → covers runs n ≡ true
covers-at runs i n run lt is here = grind (arith, common_steps, nat_tests)

pub touched : (runs : List PageRun) (i g : ℕ) (run : PageRun) → i < length runs → run ≡ get_or runs i run → IsRun run → run.first / 512 / 512 ≤ g → g < ((run.first + run.count + 511) / 512 + 511) / 512 → Touches runs g
touched runs i g run lt is some from to =
    let a = some.0 in
    let inside : in_run run (max run.first (262144 * g)) ≡ true = grind (arith, nat_tests, a, from, to) in
    record {
      page = max run.first (262144 * g);
      small = omega (arith, a, some.1, from, to);
      covered = covers-at runs i (max run.first (262144 * g)) run lt is inside;
      here = omega (arith, a, from, to);
    }
