-- What walkers see of a whole call: from its entry on, over an edit, and at its end.
use Rattle.std.proofs.Common.{◌≡◌, ℕ, ◌/◌, ◌^◌, ◌<◌, true, ◌&&◌, eqb, cond, List, [], None, refl, arith, ap, sym, subst, ◌∙◌, ◌⊎◌, inl, inr, eq-eqb}
use Rattle.stage2.proofs.Names.{PageRun, covers, View, row_of, is_mixed, Words, words_of, all_lie_in, Layout, walk, walked, Agrees, answers, answer_of, edited, AreFree, disturbed, IsSteady, StaysInStep, Moments, view_of, has_root, ReachSo, ShowsMoments, EditsInStep, nat_tests, common_steps, ltb-true}
use Rattle.stage2.specs.Edits.{with_pages}
use Rattle.stage2.specs.Tables.{TablesView, AreFreeFor, ClearsNothing, edit_from, IsCallInStep}
use Rattle.stage2.proofs.Tree.Rows.{same_row}
use Rattle.stage2.proofs.Editing.ChunkKeeps.{answer-walked}
use Rattle.stage2.proofs.Walkers.SteadyPages.{differ-mixed, none-steady}
use Rattle.stage2.proofs.Walkers.WholeEdit.{orderly-begun, moments-of}

-- the pages of a map are not reached, as the tables say
pub free-views : (t : TablesView) (before : ℕ → ℕ → View) (p : ℕ) (runs : List PageRun) (access : View) → Agrees t.layout (words_of t.pool.memory.words) before → AreFreeFor p runs access before → AreFree (λ n. true) runs access (view_of t p)
free-views t before p runs access starts free n small all here = grind (arith, common_steps, nat_tests, answer-walked)

-- ---- its steps

-- a call begins, and no operation is made yet
pub call-begun : (t : TablesView) (p : ℕ) (runs : List PageRun) (access : View) → t.pool.operations ≡ [] → IsCallInStep t p runs access [] t
call-begun t p runs access none =
    let e = edit_from t p runs access [] in
    orderly-begun t.layout t.pool t.pool e.row e.which e.answer refl none refl

-- an edit, over the words that stood at the entry
pub call-edited : (entry old new : TablesView) (p : ℕ) (runs : List PageRun) (access : View) (cleared : List PageRun) → IsCallInStep entry p runs access cleared old → EditsInStep p runs access old new
    → old.layout ≡ entry.layout → words_of old.pool.memory.words ≡ words_of entry.pool.memory.words → AreFree (λ n. true) runs access (view_of entry p) → IsCallInStep entry p runs access cleared new
call-edited entry old new p runs access cleared begun edits placed same free =
    let e = edit_from entry p runs access cleared in
    let EditsOver : Layout → Words → Type 0 = λ layout words.
    AreFree (λ n. true) runs access (answers layout words (row_of layout.ids p))
    → StaysInStep layout (row_of layout.ids p) (disturbed runs (answers layout words (row_of layout.ids p)) (edited runs access (answers layout words (row_of layout.ids p)))) (λ n. walked n (edited runs access (answers layout words (row_of layout.ids p)) n)) old.pool new.pool in
    let here : EditsOver entry.layout (words_of entry.pool.memory.words) = subst (λ (words : Words). EditsOver entry.layout words) same (subst (λ (layout : Layout). EditsOver layout (words_of old.pool.memory.words)) placed edits) in
    let own : (n : ℕ) → e.which n ≡ true → (eqb e.row e.row && e.which n) ≡ true = λ n t. rw (eq-eqb e.row e.row refl, t) refl in
    here free e (record { same_layout = refl; same_row = refl; may = λ n small t. (inr (own n t, inl refl), inr (own n t, inr refl)) }) begun

-- ---- its end

module _ (entry : TablesView) (before : ℕ → ℕ → View) (p : ℕ) (runs : List PageRun) (access : View)
    (root : has_root entry p ≡ true) (starts : Agrees entry.layout (words_of entry.pool.memory.words) before) where
  own : (q : ℕ) → row_of entry.layout.ids q ≡ row_of entry.layout.ids p → eqb q p ≡ true
  own q at = sym (same_row entry.layout.ids p q (row_of entry.layout.ids p) (record { is = refl; inside = ltb-true _ _ root })) ∙ eq-eqb (row_of entry.layout.ids q) (row_of entry.layout.ids p) at

  -- what a partition of the row reaches before the edit and after it
  told : (q n : ℕ) → n < 2 ^ 27 → row_of entry.layout.ids q ≡ row_of entry.layout.ids p → view_of entry p n ≡ before q n
  told q n small at = ap (λ r. answer_of (walk entry.layout (words_of entry.pool.memory.words) r n)) (sym at) ∙ ap answer_of (starts q n small) ∙ answer-walked n (before q n)

  told-after : (q n : ℕ) → n < 2 ^ 27 → row_of entry.layout.ids q ≡ row_of entry.layout.ids p → edited runs access (view_of entry p) n ≡ with_pages p runs access before q n
  told-after q n small at = ap (λ a. cond (covers runs n) access a) (told q n small at) ∙ sym (ap (λ b. cond (b && covers runs n) access (before q n)) (own q at))

  agrees-after : (now : TablesView) → now.layout ≡ entry.layout → ReachSo p runs access entry now → Agrees entry.layout (words_of now.pool.memory.words) (with_pages p runs access before)
  agrees-after now placed walks q n small = grind (arith, common_steps, nat_tests)

  -- a steady page that is disturbed is not reached
  steady-none : AreFreeFor p runs access before → (q n : ℕ) → n < 2 ^ 27 → row_of entry.layout.ids q ≡ row_of entry.layout.ids p
      → disturbed runs (view_of entry p) (edited runs access (view_of entry p)) n ≡ true → IsSteady before (with_pages p runs access before) q n → view_of entry p n ≡ None
  steady-none free q n small at t steady =
      let v : ℕ → View = view_of entry p in
      let w : ℕ → View = edited runs access v in
      let are_free = free-views entry before p runs access starts free in
      let below : (x : ℕ) → x / 512 ≡ n / 512 → x < 2 ^ 27 = λ x e. omega (arith, e, small) in
      let chunk : ((x : ℕ) → x / 512 ≡ n / 512 → v x ≡ w x) ⊎ ((is_mixed v (n / 512) ≡ true) × (is_mixed w (n / 512) ≡ true)) = elim steady.chunk [
        | inl all ↦ inl (λ x e. told q x (below x e) at ∙ all x e ∙ sym (told-after q x (below x e) at))
        | inr both ↦ inr (
          differ-mixed runs access v are_free v (n / 512) both.0.0 both.0.1 both.0.2 both.0.3 (λ e. both.0.4 (sym (told q both.0.0 (below both.0.0 both.0.2) at) ∙ e ∙ told q both.0.1 (below both.0.1 both.0.3) at)),
          differ-mixed runs access v are_free w (n / 512) both.1.0 both.1.1 both.1.2 both.1.3 (λ e. both.1.4 (sym (told-after q both.1.0 (below both.1.0 both.1.2) at) ∙ e ∙ told-after q both.1.1 (below both.1.1 both.1.3) at)),
        )
      ] in
      none-steady runs access v are_free n small t (told q n small at ∙ steady.kept ∙ sym (told-after q n small at)) chunk

-- a call ends in step, and its pages are reached as the edit says
pub call-ended : (entry now : TablesView) (before : ℕ → ℕ → View) (p : ℕ) (runs : List PageRun) (access : View) (cleared : List PageRun) → has_root entry p ≡ true → now.layout ≡ entry.layout
    → Agrees entry.layout (words_of entry.pool.memory.words) before → AreFreeFor p runs access before → ReachSo p runs access entry now → IsCallInStep entry p runs access cleared now → all_lie_in now.pool ≡ true
    → Moments entry.layout entry.pool now.pool before (with_pages p runs access before)
call-ended entry now before p runs access cleared root placed starts free walks ended within =
    let e = edit_from entry p runs access cleared in
    moments-of entry.layout entry.pool now.pool before (with_pages p runs access before) e.row e.which e.answer cleared ended within starts (agrees-after entry before p runs access root starts now placed walks)
    (λ q n small at t. ap (walked n) (told-after entry before p runs access root starts q n small at))
    (λ q n small at t steady. ap (walked n) (sym (sym (told entry before p runs access root starts q n small at) ∙ steady-none entry before p runs access root starts free q n small at t steady)))

-- ---- a call that is the edit alone

edited-alone : (old new : TablesView) (p : ℕ) (runs : List PageRun) (access : View) → EditsInStep p runs access old new → old.pool.operations ≡ [] → AreFree (λ n. true) runs access (view_of old p) → IsCallInStep old p runs access [] new
edited-alone old new p runs access edits none free = call-edited old old new p runs access [] (call-begun old p runs access none) edits refl refl free

pub moments-edited : (old new : TablesView) (p : ℕ) (runs : List PageRun) (access : View) → has_root old p ≡ true → new.layout ≡ old.layout → ReachSo p runs access old new → EditsInStep p runs access old new → all_lie_in new.pool ≡ true → ShowsMoments p runs access old new
moments-edited old new p runs access root placed walks edits within none before starts free =
    call-ended old new before p runs access [] root placed starts free walks (edited-alone old new p runs access edits none (free-views old before p runs access starts free)) within

pub clears-nothing : (old new : TablesView) (p : ℕ) (runs : List PageRun) (access : View) → EditsInStep p runs access old new → ClearsNothing p runs access old new
clears-nothing old new p runs access edits none free = (edited-alone old new p runs access edits none free).orderly.cleared
