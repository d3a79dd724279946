-- The tables of one partition, filled upward.
use Rattle.std.proofs.Common.{◌≡◌, ℕ, ◌^◌, ◌<◌, ◌≤◌, Some, ap, ◌∙◌, arith}
use Rattle.stage2.proofs.Names.{nat_tests, Access, View, row_of, need, row_quota, edited, IsEdge, view_below, in_range, IsFilling, KeepsOthers, IsFilled, answer_of, Layout, walk_in, view_of, AreCanonical, ReachSo, walked, common_steps}
use Rattle.stage2.specs.inner.Filling.{pending_runs, CanMap}
use Rattle.stage2.specs.Tables.{TablesView}
use Rattle.stage2.proofs.Editing.Fronts.{below-in, below-out, fronts-fit}
use Rattle.stage2.proofs.Editing.ChunkKeeps.{answer-walked}
use Rattle.stage2.proofs.Reading.SameViews.{need-same}

module _ {layout : Layout} {view : ℕ → View} {p first number : ℕ} {access : View} {t : TablesView} (h : IsFilling layout view p first number access t) where
  before : (n : ℕ) → n < 2 ^ 27 → view_of t p n ≡ view_below view first n
  before n small = ap answer_of (h.walks n small) ∙ answer-walked n (view_below view first n)

  same-edit : (n : ℕ) → n < 2 ^ 27 → edited (pending_runs first number access) access (view_of t p) n ≡ view_below view number n
  same-edit n small = grind (arith, common_steps, nat_tests, before, below-in, below-out)

  pub can-map : (a : Access) → access ≡ Some a → IsEdge view number → need view ≤ row_quota layout.quotas (row_of layout.ids p) → CanMap p first number a t
  can-map a is edge enough = grind (arith, common_steps, nat_tests, h.ordered, h.some, h.inside, before, below-out, fronts-fit view (view_of t p) (edited (pending_runs first number access) access (view_of t p)) first number h.edge edge before same-edit)

  -- when they are mapped
  pub mapped : (new : TablesView) → ReachSo p (pending_runs first number access) access t new → (n : ℕ) → n < 2 ^ 27 → walk_in new p n ≡ walked n (view_below view number n)
  mapped new reach n small = grind (arith, common_steps, nat_tests, below-in, below-out)

  pub others : (new : TablesView) → ReachSo p (pending_runs first number access) access t new → KeepsOthers p t new
  others new reach = grind (arith, common_steps, nat_tests)

pub others-more : (p : ℕ) (a b c : TablesView) → KeepsOthers p a b → KeepsOthers p b c → KeepsOthers p a c
others-more p a b c x y = record { walks = λ q n small other. y.walks q n small other ∙ x.walks q n small other }

-- ---- from one segment to the next

-- the pages of a segment are in range
pub segment-alike : (view : ℕ → View) (number page end : ℕ) (value : View) → page ≡ number → end ≤ 2 ^ 27 → ((n : ℕ) → page ≤ n → n < end → view n ≡ value) → (n : ℕ) → number ≤ n → n < end → in_range view n ≡ value
segment-alike view number page end value at inside alike n le lt = grind (arith, common_steps, nat_tests, below-in)

-- the next pages are not as the pending ones: there is an edge before them
pub edge-between : (layout : Layout) (view : ℕ → View) (p first number : ℕ) (access : View) (t : TablesView) → IsFilling layout view p first number access t → (access ≡ view number → ⊥) → IsEdge view number
edge-between layout view p first number access t h unlike = grind (arith, common_steps, nat_tests)

-- what is reached past the last page needs no table
pub in-range-fits : (view : ℕ → View) (quota : ℕ) → need view ≤ quota → need (in_range view) ≤ quota
in-range-fits view quota fits = grind (arith, common_steps, nat_tests, need-same, below-in)

-- they are others, and the pending ones are mapped
pub filling-next : (layout : Layout) (view : ℕ → View) (p number end : ℕ) (new : TablesView) → new.layout ≡ layout → AreCanonical new → ((n : ℕ) → n < 2 ^ 27 → walk_in new p n ≡ walked n (view_below view number n)) → IsEdge view number → number < end → end ≤ 2 ^ 27 → ((n : ℕ) → number ≤ n → n < end → view n ≡ view number) → IsFilling layout view p number end (view number) new
filling-next layout view p number end new placed canonical walks edge behind inside all = grind (arith, common_steps, nat_tests)

-- all pages are mapped
pub filled : (layout : Layout) (view : ℕ → View) (p first number : ℕ) (access : View) (t new : TablesView) → IsFilling layout (in_range view) p first number access t → 2 ^ 27 ≤ number → ReachSo p (pending_runs first number access) access t new → IsFilled view p new
filled layout view p first number access t new h past reach = grind (arith, common_steps, nat_tests, mapped, below-in)
