-- The tables and the state go on together.
use Rattle.std.proofs.Common.{◌≡◌, ℕ, Bool, ◌&&◌, true, false, Option, Some, None, Result, Ok, Err, cond, eqb, refl, sym, ap, subst, ◌∙◌}
use Rattle.std.specs.Prelude.{IsTrue, OnOk, OnErr}
use Rattle.base.specs.Pages.{covers}
use Rattle.base.specs.Access.{View}
use Rattle.base.specs.Manifest.{ManifestRows, is_partition, grant}
use Rattle.base.specs.Refusals.{first_refusal}
use Rattle.base.specs.State.{State, start, sees}
use Rattle.manifest.specs.Valid.{is_valid}
use Rattle.pool.specs.Pool.{Pool, words_of}
use Rattle.stage2.specs.Slot.{Layout, layout_of}
use Rattle.stage2.specs.Walk.{translation, walked, Agrees}
use Rattle.wire.specs.declared.request.Request.{Request}
use Rattle.wire.specs.Requests.{request_of}
use Rattle.rules.specs.Call.{CallWords, IsCall}
use Rattle.rules.specs.Rule.{Edit, Rule, with_edit, fits, all_tests}
use Rattle.rules.specs.Run.{rule_of, rule, answer, refusal, step, IsReached}
use Rattle.rules.proofs.Passing.{last_decides, earlier_decides}
use Rattle.base.specs.declared.status.Status.{Status}
use Rattle.base.specs.declared.status.Status.TheVariants.{NoMemory}
use Rattle.wire.specs.Replies.{error}
use Rattle.rules.specs.Laws.EditsTheView.{Passes}
use Rattle.rules.proofs.Reached.{IsReached-start, IsReached-step, step_is, rule_is}
use Rattle.rules.proofs.Laws.EditsTheView.{edits_the_view}
use Rattle.rules.proofs.Laws.ManifestStays.{manifest_stays}
use Rattle.spm.specs.Granted.{AreSameEdits}
use Rattle.spm.specs.Machine.{IsConsistent, IsEditedBy, edited, takes_memory, MayNeedMemory}

-- before any call each partition reaches what the manifest grants it
pub boot_kept : (m : ManifestRows) (s : State) (layout : Layout) (pool : Pool) → IsTrue (is_valid m) → s ≡ start m → layout ≡ layout_of m → Agrees layout (words_of pool.memory.words) (grant m) → IsConsistent s layout pool
boot_kept m s layout pool valid is placed agrees =
    subst (λ (t : State). IsConsistent t layout pool) (sym is) (record {
      layout_of_manifest = placed;
      agrees = record { walks = λ p n small. ap (λ l. translation l (words_of pool.memory.words) p n) (sym placed) ∙ agrees p n small };
      reached = IsReached-start m valid;
    })

chosen : (n : ℕ) (b : Bool) (x y : View) → cond b (walked n x) (walked n y) ≡ walked n (cond b x y)
chosen n true x y = refl
chosen n false x y = refl

-- what a page is translated to after an edit is what is reached of it after the edit
edited_view : (a b : Option Edit) (view : ℕ → ℕ → View) (p n : ℕ) → AreSameEdits a b → edited b p n (walked n (view p n)) ≡ walked n (with_edit a view p n)
edited_view None None view p n same = refl
edited_view None (Some b) view p n same = absurd same
edited_view (Some a) None view p n same = absurd same
edited_view (Some a) (Some b) view p n same =
    let test : (eqb p b.who && covers b.runs n) ≡ (eqb p a.who && covers a.runs n) = rw (same.who, same.pages n) refl in
    rw (test, same.to) (chosen n (eqb p a.who && covers a.runs n) a.to (view p n))

-- the change of a request that passes its tests
pub change_kept : (s : State) (c : CallWords) (r : Request) (layout : Layout) (old new : Pool) (edit : Option Edit) (t : State)
    → IsCall c → Passes s c r → AreSameEdits (rule_of s c r).edit edit → IsEditedBy edit layout old new → t ≡ (rule_of s c r).next → IsConsistent s layout old → IsConsistent t layout new
change_kept s c r layout old new edit t is k same by next kept =
    let rule = rule_of s c r in
    let now : layout ≡ layout_of t.manifest = kept.layout_of_manifest ∙ ap layout_of (sym (manifest_stays s c r) ∙ ap (λ (u : State). u.manifest) (sym next)) in
    record {
      layout_of_manifest = now;
      agrees = record {
        walks = λ p n small.
            ap (λ l. translation l (words_of new.memory.words) p n) (sym now)
            ∙ by.walks p n small
            ∙ ap (edited edit p n) (ap (λ l. translation l (words_of old.memory.words) p n) kept.layout_of_manifest ∙ kept.agrees.walks p n small)
            ∙ edited_view rule.edit edit (sees s) p n same
            ∙ ap (walked n) (sym ((edits_the_view s c r kept.reached k.tests).views p n))
            ∙ ap (λ (u : State). walked n (sees u p n)) (sym next);
      };
      reached = subst IsReached (step_is s c r k ∙ sym next) (IsReached-step s c is kept.reached);
    }

-- tables that no edit changes
pub not_edited : (layout : Layout) (old new : Pool) → new ≡ old → IsEditedBy None layout old new
not_edited layout old new same = record { walks = λ p n small. ap (λ (pool : Pool). translation layout (words_of pool.memory.words) p n) same }

-- a request that takes memory
pub may_need : (s : State) (c : CallWords) (r : Request) → is_partition s.manifest c.caller ≡ true → request_of c.regs ≡ Some r → first_refusal (rule_of s c r).tests ≡ None → takes_memory r ≡ true → MayNeedMemory s c
unfolding refusal
may_need s c r known named passed e = record { request = r; named = named; takes = e; passes = passed }

-- the commit of such a change: where memory is wanting, nothing changes
pub commit_kept : {A B : Type 0} (result : Result A B) (s t : State) (c : CallWords) (r : Request) (layout after : Layout) (old new : Pool) (edit : Option Edit) (next : State)
    → IsCall c → Passes s c r → AreSameEdits (rule_of s c r).edit edit → next ≡ (rule_of s c r).next
    → OnOk result (t ≡ next) → OnOk result (IsEditedBy edit layout old new) → after ≡ layout → OnErr result (t ≡ s) → OnErr result (new ≡ old)
    → IsConsistent s layout old → IsConsistent t after new
commit_kept (Ok a) s t c r layout after old new edit next is k same next_is changed by placed err_state err_pool kept =
    subst (λ (l : Layout). IsConsistent t l new) (sym placed) (change_kept s c r layout old new edit t is k same by (changed ∙ next_is) kept)
commit_kept (Err b) s t c r layout after old new edit next is k same next_is changed by placed err_state err_pool kept =
    subst (λ (l : Layout). IsConsistent t l new) (sym placed) (subst (λ (u : State). IsConsistent u layout new) (sym err_state) (subst (λ (w : Pool). IsConsistent s layout w) (sym err_pool) kept))

-- ---- what a call is answered, by the rule of its request

module _ (s : State) (c : CallWords) (r : Request) (known : is_partition s.manifest c.caller ≡ true) (named : request_of c.regs ≡ Some r) where
  is : rule s c ≡ rule_of s c r
  is = rule_is s c r known named

  -- a test of the request refuses it
  pub refused_answer : (status : Status) → first_refusal (rule_of s c r).tests ≡ Some status → answer s c ≡ error status
  unfolding answer
  refused_answer status e = let f = earlier_decides (rule_of s c r).tests (fits s (rule_of s c r).edit) NoMemory status e in rw (is, f) refl

  pub refused_step : (status : Status) → first_refusal (rule_of s c r).tests ≡ Some status → step s c ≡ s
  unfolding step
  refused_step status e = let f = earlier_decides (rule_of s c r).tests (fits s (rule_of s c r).edit) NoMemory status e in rw (is, f) refl

  pub refused_is : (status : Status) → first_refusal (rule_of s c r).tests ≡ Some status → refusal s c ≡ Some status
  unfolding refusal
  refused_is status e = let f = earlier_decides (rule_of s c r).tests (fits s (rule_of s c r).edit) NoMemory status e in rw (is, f) refl

  -- its edit does not fit
  unfit : first_refusal (rule_of s c r).tests ≡ None → fits s (rule_of s c r).edit ≡ false → first_refusal (all_tests s (rule_of s c r)) ≡ Some NoMemory
  unfit e f = last_decides (rule_of s c r).tests (fits s (rule_of s c r).edit) NoMemory e ∙ ap (λ (b : Bool). cond b None (Some NoMemory)) f

  pub unfit_answer : first_refusal (rule_of s c r).tests ≡ None → fits s (rule_of s c r).edit ≡ false → answer s c ≡ error NoMemory
  unfolding answer
  unfit_answer e f = let g = unfit e f in rw (is, g) refl

  pub unfit_step : first_refusal (rule_of s c r).tests ≡ None → fits s (rule_of s c r).edit ≡ false → step s c ≡ s
  unfolding step
  unfit_step e f = let g = unfit e f in rw (is, g) refl

  pub unfit_is : first_refusal (rule_of s c r).tests ≡ None → fits s (rule_of s c r).edit ≡ false → refusal s c ≡ Some NoMemory
  unfolding refusal
  unfit_is e f = let g = unfit e f in rw (is, g) refl

  -- it is granted
  granted : first_refusal (rule_of s c r).tests ≡ None → fits s (rule_of s c r).edit ≡ true → first_refusal (all_tests s (rule_of s c r)) ≡ None
  granted e f = last_decides (rule_of s c r).tests (fits s (rule_of s c r).edit) NoMemory e ∙ ap (λ (b : Bool). cond b None (Some NoMemory)) f

  pub granted_answer : first_refusal (rule_of s c r).tests ≡ None → fits s (rule_of s c r).edit ≡ true → answer s c ≡ (rule_of s c r).reply
  unfolding answer
  granted_answer e f = let g = granted e f in rw (is, g) refl

  pub not_refused : first_refusal (rule_of s c r).tests ≡ None → fits s (rule_of s c r).edit ≡ true → refusal s c ≡ None
  unfolding refusal
  not_refused e f = let g = granted e f in rw (is, g) refl

  -- where the rule edits no view, neither does the change
  pub no_edit : (edit : Option Edit) → AreSameEdits (rule_of s c r).edit edit → (rule s c).edit ≡ None → edit ≡ None
  no_edit edit same none = same_none (rule_of s c r).edit edit same (ap (λ (x : Rule). x.edit) (sym is) ∙ none)
    where
      same_none : (a b : Option Edit) → AreSameEdits a b → a ≡ None → b ≡ None
      same_none a None same e = refl
      same_none None (Some b) same e = absurd same
      same_none (Some a) (Some b) same e = absurd cc

-- what two facts of an error give
pub both_err : {A B P Q R : Type 0} (result : Result A B) → (P → Q → R) → OnErr result P → OnErr result Q → OnErr result R
both_err (Ok a) f p q = tt
both_err (Err b) f p q = f p q
