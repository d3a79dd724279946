-- What a granted call comes to, where its edit fits and where it does not.
use Rattle.std.proofs.Common.{◌≡◌, true, false, Some, None, sym, ap, subst, ◌∙◌}
use Rattle.base.specs.declared.status.Status.TheVariants.{NoMemory}
use Rattle.base.specs.State.{State}
use Rattle.stage2.specs.Tables.{TablesView}
use Rattle.wire.specs.declared.request.Request.{Request}
use Rattle.wire.specs.Replies.{error}
use Rattle.rules.specs.Call.{CallWords}
use Rattle.rules.specs.Rule.{Rule, fits}
use Rattle.rules.specs.Run.{rule_of, rule, answer, refusal, step}
use Rattle.rules.specs.Laws.EditsTheView.{Passes}
use Rattle.rules.proofs.Reached.{step_is, rule_is}
use Rattle.spm.specs.declared.change.Change.{Change}
use Rattle.spm.specs.Granted.{updated, replied, AreSameEdits, AreOrderly, IsGrantedCall}
use Rattle.spm.specs.Machine.{Machine, IsConsistent, fits_in}
use Rattle.spm.proofs.ConsistencyLemmas.{unfit_answer, unfit_step, unfit_is, granted_answer, not_refused, no_edit}
use Rattle.spm.proofs.QuotaLemmas.{all_passes, unfits}

-- the change of a call that passes all tests, in the state as it is built
pub record IsMade (now : Machine) (s : State) (call : CallWords) (change : Change) : Type 0 where
  pub request : Request
  pub passes : Passes s call request
  pub same : AreSameEdits (rule_of s call request).edit change.edit
  pub next : updated s call.caller change.update ≡ (rule_of s call request).next
  pub reply : replied change.answer ≡ answer now.state call
  pub state : updated s call.caller change.update ≡ step now.state call
  pub accepted : refusal now.state call ≡ None
  pub still : (rule now.state call).edit ≡ None → change.edit ≡ None
  pub edits : AreSameEdits (rule now.state call).edit change.edit
  pub orderly : AreOrderly call.caller change.edit

-- the call is answered NO_MEMORY, and nothing changes
pub record IsUnfit (now : Machine) (s : State) (call : CallWords) : Type 0 where
  pub reply : error NoMemory ≡ answer now.state call
  pub state : s ≡ step now.state call
  pub refuses : refusal now.state call ≡ Some NoMemory

module _ (now : Machine) (s : State) (t : TablesView) (call : CallWords) (change : Change) (built : record { state = s; pool = t.pool } ≡ now) (asked : IsGrantedCall now.state call change) (kept : IsConsistent s t.layout t.pool) where
  granted : IsGrantedCall s call change
  granted = subst (λ (m : Machine). IsGrantedCall m.state call change) (sym built) asked

  pub made : fits_in s.manifest t change.edit ≡ true → IsMade now s call change
  made fit =
      let r = granted.request in
      let passes : Passes s call r = all_passes s t call change granted kept.layout_of_manifest kept.agrees fit in
      record {
        request = r;
        passes = passes;
        same = granted.granted.edit;
        next = granted.granted.next;
        reply = granted.granted.reply ∙ sym (granted_answer s call r granted.known granted.named passes.tests.passed passes.fits) ∙ ap (λ (m : Machine). answer m.state call) built;
        state = granted.granted.next ∙ sym (step_is s call r passes) ∙ ap (λ (m : Machine). step m.state call) built;
        accepted = ap (λ (m : Machine). refusal m.state call) (sym built) ∙ not_refused s call r granted.known granted.named passes.tests.passed passes.fits;
        edits = subst (λ (m : Machine). AreSameEdits (rule m.state call).edit change.edit) built (subst (λ (x : Rule). AreSameEdits x.edit change.edit) (sym (rule_is s call r granted.known granted.named)) granted.granted.edit);
        orderly = granted.granted.orderly;
        still = λ e. no_edit s call r granted.known granted.named change.edit granted.granted.edit (ap (λ (m : Machine). (rule m.state call).edit) built ∙ e);
      }

  pub unfit : fits_in s.manifest t change.edit ≡ false → IsUnfit now s call
  unfit fit =
      let r = granted.request in
      let out : fits s (rule_of s call r).edit ≡ false = unfits s t call change granted kept.layout_of_manifest kept.agrees fit in
      record {
        reply = sym (unfit_answer s call r granted.known granted.named granted.granted.passed out) ∙ ap (λ (m : Machine). answer m.state call) built;
        state = sym (unfit_step s call r granted.known granted.named granted.granted.passed out) ∙ ap (λ (m : Machine). step m.state call) built;
        refuses = ap (λ (m : Machine). refusal m.state call) (sym built) ∙ unfit_is s call r granted.known granted.named granted.granted.passed out;
      }
