-- What walkers see of a call, and what it clears.
use Rattle.std.proofs.Common.{◌≡◌, ℕ, [], Option, Some, None, is_some, not, Result, Ok, Err, refl, sym, ap, subst, ◌∙◌, inl, inr}
use Rattle.std.specs.Prelude.{OnOk, OnErr}
use Rattle.std.proofs.lemmas.Bool.{ltb-true}
use mathlib.Core.Path.{fun_ext}
use Rattle.base.specs.Access.{View}
use Rattle.base.specs.State.{State, sees}
use Rattle.pool.specs.Pool.{Pool, emptied, words_of}
use Rattle.stage2.specs.Slot.{Layout, layout_of}
use Rattle.stage2.specs.Orderly.{answer_of}
use Rattle.stage2.specs.Walk.{Agrees, translation}
use Rattle.stage2.proofs.Editing.ChunkKeeps.{answer-walked}
use Rattle.stage2.specs.Moments.{Moments, cleared_by}
use Rattle.stage2.specs.Edits.{with_pages}
use Rattle.stage2.specs.Tables.{TablesView, AreFreeFor, view_of}
use Rattle.stage2.proofs.Walkers.WholeEdit.{moments-none}
use Rattle.wire.specs.declared.request.Request.{Request}
use Rattle.rules.specs.Call.{CallWords}
use Rattle.rules.specs.Rule.{Edit, with_edit}
use Rattle.rules.specs.Run.{rule_of, IsReached}
use Rattle.rules.specs.Laws.EditsTheView.{Passes, AreNotReached, AreTurned}
use Rattle.rules.specs.Laws.Clears.{AreClearedUnreached}
use Rattle.rules.proofs.Laws.EditsTheView.{edits_the_view}
use Rattle.rules.proofs.Laws.Clears.{cleared_unreached}
use Rattle.spm.specs.Clearing.{clears_in, AreUnreachedByOthers}
use Rattle.spm.specs.Granted.{IsSameEdit, AreSameEdits}
use Rattle.spm.specs.Machine.{Machine, WalksAgree, AreTurnedIn, ShowsEdit, ShowsCall, unchanged}

-- a list of operations before the call is none of its own
pub moments-emptied : (layout : Layout) (old new : Pool) (before after : ℕ → ℕ → View) → Moments layout (emptied old) new before after → Moments layout old new before after
moments-emptied layout old new before after h = record { exact = h.exact; counted = h.counted; gives = h.gives; keeps = h.keeps; breaks = h.breaks; clears = h.clears; within = h.within; fresh = h.fresh; linked = h.linked }

-- the same views, told otherwise
moments-as : (layout : Layout) (old new : Pool) (before after views : ℕ → ℕ → View) → ((p n : ℕ) → after p n ≡ views p n) → Moments layout old new before after → Moments layout old new before views
moments-as layout old new before after views same h = subst (λ (f : ℕ → ℕ → View). Moments layout old new before f) (fun_ext (λ p. fun_ext (λ n. same p n))) h

-- a call that leaves the tables as they were
pub still-shown : (s t : State) (old new : Pool) → WalksAgree s old → WalksAgree t new → layout_of t.manifest ≡ layout_of s.manifest → old.operations ≡ [] → new ≡ old → Moments (layout_of s.manifest) old new (sees s) (sees t)
still-shown s t old new before after placed begun same =
    let ends : Agrees (layout_of s.manifest) (words_of new.memory.words) (sees t) = subst (λ (l : Layout). Agrees l (words_of new.memory.words) (sees t)) placed after.walks in
    moments-none (layout_of s.manifest) old new (sees s) (sees t) before.walks ends (ap (λ (p : Pool). p.memory) same) (ap (λ (p : Pool). p.operations) same ∙ begun) (ap (λ (p : Pool). p.made) same)

-- a call that leaves the tables and the state
pub same-shown : (old new : Machine) → WalksAgree old.state old.pool → old.pool.operations ≡ [] → new ≡ old → ShowsCall old new
same-shown old new agrees begun same = subst (ShowsCall old) (sym same) (still-shown old.state old.state old.pool old.pool agrees agrees refl begun refl)

-- a call that leaves them, but empties the list of operations
pub begun-shown : (old new : Machine) → WalksAgree old.state old.pool → new ≡ unchanged old → ShowsCall old new
begun-shown old new agrees same =
    let still = still-shown old.state old.state (emptied old.pool) (emptied old.pool) (record { walks = agrees.walks }) (record { walks = agrees.walks }) refl refl refl in
    subst (ShowsCall old) (sym same) (moments-emptied (layout_of old.state.manifest) old.pool (emptied old.pool) (sees old.state) (sees old.state) still)

-- an edit that the rule names so, or otherwise
same_pages : (a b : Edit) (view : ℕ → ℕ → View) (p n : ℕ) → IsSameEdit a b → with_pages b.who b.runs b.to view p n ≡ with_edit (Some a) view p n
same_pages a b view p n same = rw (same.who, same.pages n, same.to) refl

free_alike : (s : State) (a b : Edit) → IsSameEdit a b → AreNotReached s (Some a) → AreFreeFor b.who b.runs b.to (sees s)
free_alike s a b same free n small here =
    elim (free n (sym (same.pages n) ∙ here)) [
      | inl e ↦ inl (same.to ∙ e)
      | inr e ↦ inr (ap (λ p. sees s p n) same.who ∙ e)
    ]

-- the tables say the same of it
pub turned_alike : (s : State) (t : TablesView) (a b : Option Edit) → t.layout ≡ layout_of s.manifest → WalksAgree s t.pool → AreSameEdits a b → AreTurned s a → AreTurnedIn t b
turned_alike s t None None placed agrees same turned = tt
turned_alike s t None (Some b) placed agrees same turned = absurd same
turned_alike s t (Some a) None placed agrees same turned = absurd same
turned_alike s t (Some a) (Some b) placed agrees same turned = λ n below here.
    let walk = ap (λ (l : Layout). translation l (words_of t.pool.memory.words) b.who n) placed ∙ agrees.walks b.who n (ltb-true _ _ below) in
    let seen : view_of t b.who n ≡ sees s a.who n = ap answer_of walk ∙ answer-walked n (sees s b.who n) ∙ ap (λ p. sees s p n) same.who in
    ap (λ v. is_some v) seen ∙ turned n (sym (same.pages n) ∙ here) ∙ ap (λ v. not (is_some v)) (sym same.to)

others_alike : (s : State) (a b : Edit) → IsSameEdit a b → AreClearedUnreached s (Some a) → AreUnreachedByOthers b (sees s)
others_alike s a b same alone ordered p n here other = alone (sym same.clears ∙ ordered) p n (sym (same.pages n) ∙ here) (λ e. other (e ∙ sym same.who))

-- what walkers see of a call, and what it clears
pub record IsCallShown (s t : State) (old new : TablesView) (edit : Option Edit) : Type 0 where
  pub moments : Moments (layout_of s.manifest) old.pool new.pool (sees s) (sees t)
  pub cleared : cleared_by new.pool.operations ≡ clears_in edit

edit-shown : (s t : State) (old new : TablesView) (a b : Option Edit) → old.layout ≡ layout_of s.manifest → layout_of t.manifest ≡ layout_of s.manifest → WalksAgree s old.pool → WalksAgree t new.pool → old.pool.operations ≡ []
    → AreSameEdits a b → AreNotReached s a → AreClearedUnreached s a → ((p n : ℕ) → sees t p n ≡ with_edit a (sees s) p n) → ShowsEdit b old new → (b ≡ None → new.pool ≡ old.pool) → IsCallShown s t old new b
edit-shown s t old new None None placed stays agrees after begun same free alone views shown still = record {
  moments = still-shown s t old.pool new.pool agrees after stays begun (still refl);
  cleared = ap (λ (p : Pool). cleared_by p.operations) (still refl) ∙ ap cleared_by begun;
}
edit-shown s t old new None (Some b) placed stays agrees after begun same free alone views shown still = absurd same
edit-shown s t old new (Some a) None placed stays agrees after begun same free alone views shown still = absurd same
edit-shown s t old new (Some a) (Some b) placed stays agrees after begun same free alone views shown still =
    let starts : Agrees old.layout (words_of old.pool.memory.words) (sees s) = subst (λ (l : Layout). Agrees l (words_of old.pool.memory.words) (sees s)) (sym placed) agrees.walks in
    let one = shown begun (sees s) starts (free_alike s a b same free) (others_alike s a b same alone) in
    let two = subst (λ (l : Layout). Moments l old.pool new.pool (sees s) (with_pages b.who b.runs b.to (sees s))) placed one.moments in
    record {
      moments = moments-as (layout_of s.manifest) old.pool new.pool (sees s) (with_pages b.who b.runs b.to (sees s)) (sees t) (λ p n. same_pages a b (sees s) p n same ∙ sym (views p n)) two;
      cleared = one.cleared;
    }

-- the commit of a change that is granted
module _ {A B : Type 0} (result : Result A B) (s t next : State) (c : CallWords) (r : Request) (old new : TablesView) (edit : Option Edit)
    (placed : old.layout ≡ layout_of s.manifest) (stays : layout_of t.manifest ≡ layout_of s.manifest) (agrees : WalksAgree s old.pool) (after : WalksAgree t new.pool) (begun : old.pool.operations ≡ [])
    (reached : IsReached s) (k : Passes s c r) (same : AreSameEdits (rule_of s c r).edit edit) (is : next ≡ (rule_of s c r).next)
    (changed : OnOk result (t ≡ next)) (shown : OnOk result (ShowsEdit edit old new)) (still : edit ≡ None → new.pool ≡ old.pool) where
  call-shown : t ≡ next → ShowsEdit edit old new → IsCallShown s t old new edit
  call-shown goes shows =
      let law = edits_the_view s c r reached k.tests in
      edit-shown s t old new (rule_of s c r).edit edit placed stays agrees after begun same law.free (cleared_unreached s c r reached k.tests) (λ p n. ap (λ (u : State). sees u p n) (goes ∙ is) ∙ law.views p n) shows still

  pub commit-shown : OnErr result (t ≡ s) → OnErr result (new.pool ≡ old.pool) → Moments (layout_of s.manifest) old.pool new.pool (sees s) (sees t)
  commit-shown err_state err_pool = of_result result changed shown err_pool
    where
      of_result : (x : Result A B) → OnOk x (t ≡ next) → OnOk x (ShowsEdit edit old new) → OnErr x (new.pool ≡ old.pool) → Moments (layout_of s.manifest) old.pool new.pool (sees s) (sees t)
      of_result (Ok a) goes shows pool = (call-shown goes shows).moments
      of_result (Err b) goes shows pool = still-shown s t old.pool new.pool agrees after stays begun pool

  pub commit-cleared : OnOk result (cleared_by new.pool.operations ≡ clears_in edit)
  commit-cleared = of_result result changed shown
    where
      of_result : (x : Result A B) → OnOk x (t ≡ next) → OnOk x (ShowsEdit edit old new) → OnOk x (cleared_by new.pool.operations ≡ clears_in edit)
      of_result (Ok a) goes shows = (call-shown goes shows).cleared
      of_result (Err b) goes shows = tt
