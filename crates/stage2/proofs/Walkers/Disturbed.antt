-- Which pages an edit may disturb: chunk by chunk.
use Rattle.std.proofs.Common.{◌≡◌, ℕ, ◌+◌, ◌*◌, ◌/◌, ◌<◌, false, not, ◌&&◌, ◌||◌, eqb, List, Some, arith, ap, ap₂, sym, ◌∙◌}
use Rattle.stage2.proofs.Names.{nat_tests, PageRun, covers, View, Pool, Walked, Layout, walked, is_mixed, edited, disturbs, disturbed, IsOutcome, StaysInStep, disturbed_below, common_steps, eqb-true}
use Rattle.stage2.proofs.Walkers.ZeroedTables.{stays-wider}
use Rattle.base.proofs.Booleans.{both}

-- a chunk that has no table, before or after
pub stays-whole : (layout : Layout) (row c : ℕ) (runs : List PageRun) (access : View) (view : ℕ → View) (old new : Pool) → (is_mixed view c && is_mixed (edited runs access view) c) ≡ false
    → StaysInStep layout row (λ n. eqb (n / 512) c) (λ n. walked n (edited runs access view n)) old new
    → StaysInStep layout row (λ n. eqb (n / 512) c && disturbs runs view (edited runs access view) n) (λ n. walked n (edited runs access view n)) old new
stays-whole layout row c runs access view old new one stays = grind (arith, common_steps, nat_tests, stays-wider, eqb-true)

-- pages of a table
pub stays-covered : {layout : Layout} {row : ℕ} (c : ℕ) (runs : List PageRun) (access : View) (view : ℕ → View) {answer : ℕ → Walked} {old new : Pool} → ((n : ℕ) → answer n ≡ walked n access)
    → StaysInStep layout row (λ n. covers runs n && eqb (n / 512) c) answer old new
    → StaysInStep layout row (λ n. eqb (n / 512) c && disturbs runs view (edited runs access view) n) (λ n. walked n (edited runs access view n)) old new
stays-covered {layout} {row} c runs access view {answer} {old} {new} is stays = grind (arith, common_steps, nat_tests, stays-wider, both)

pub unmixed-after : (c : ℕ) (before after : ℕ → View) (one : View) → IsOutcome c after (Some one) → (is_mixed before c && is_mixed after c) ≡ false
unmixed-after c before after one outcome = grind (arith, common_steps, nat_tests)

-- ---- chunk after chunk of a gigabyte

pub below-more : (g i : ℕ) (runs : List PageRun) (before after : ℕ → View) (n : ℕ) → i < 512
    → disturbed_below g (i + 1) runs before after n ≡ (disturbed_below g i runs before after n || (eqb (n / 512) (512 * g + i) && disturbed runs before after n))
below-more g i runs before after n lt = grind (arith, common_steps, nat_tests)

pub below-all : (g : ℕ) (runs : List PageRun) (before after : ℕ → View) (n : ℕ) → disturbed_below g 512 runs before after n ≡ (eqb (n / 512 / 512) g && disturbed runs before after n)
below-all g runs before after n = grind (arith, common_steps, nat_tests)

-- what the edit of a chunk disturbs, told by the views at first
pub disturbs-same : (c : ℕ) (runs : List PageRun) (before after now then_after : ℕ → View) (n : ℕ) → n / 512 ≡ c → is_mixed now c ≡ is_mixed before c → is_mixed then_after c ≡ is_mixed after c → disturbs runs now then_after n ≡ disturbs runs before after n
disturbs-same c runs before after now then_after n at e f = ap₂ (λ x y. covers runs n || not (x && y)) (ap (is_mixed now) at ∙ e ∙ ap (is_mixed before) (sym at)) (ap (is_mixed then_after) at ∙ f ∙ ap (is_mixed after) (sym at))
