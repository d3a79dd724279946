use Rattle.std.proofs.Common.{◌≡◌, Bool, ℕ, refl, ap, subst, ◌∙◌}
use Rattle.base.specs.declared.transaction.Kind.{Kind}
use Rattle.base.specs.Descriptors.Send as descriptor
use Rattle.base.specs.Handles.{low_half, high_half}
use Rattle.base.specs.Pages.{are_disjoint}
use Rattle.base.specs.Transactions.{Live}
use Rattle.rules.proofs.Calls.Send.{send_passes, sent_apart}
use Rattle.wire.specs.Replies.{success}
use Rattle.rules.specs.Calls.Send.{opened, sender_edit as edit_of}
use Rattle.spm.specs.Granted.{AreSameEdits, AreOrderly}
use Rattle.spm.specs.declared.calls.send.Checked.{Checked}
use Rattle.spm.proofs.OpenLemmas.{send_granted}
use Rattle.spm.proofs.calls.send.change.Goals as goal

pub sender_edit-requires : goal.sender_edit-requires
sender_edit-requires c =
    let s = c.args.state.now in
    let call = c.args.call.now in
    let passed = c.requires.checked in
    record {
      apart = ap (λ (t : Live). are_disjoint t.ranges) c.in_ok-transaction.ensures.opened
          ∙ ap (λ (v : descriptor.Send). are_disjoint v.ranges) passed.1.said
          ∙ sent_apart s call c.args.kind passed.0 (send_passes s call c.args.kind passed.0 passed.1.passed);
    }

pub returns : goal.returns
returns c = λ transfer checked.
    let s = c.args.state.now in
    let call = c.args.call.now in
    let kind = c.args.kind in
    let desc = c.args.checked.now.desc in
    let home = c.args.checked.now.home in
    let t = c.in_ok-transaction.transaction in
    let edit = c.in_ok-edit.edit in
    let opens : t ≡ opened s call.caller kind desc home = c.in_ok-transaction.ensures.opened ∙ ap (λ p. opened s p kind desc home) c.partition-p.ensures.same in
    let its_sender : t.sender ≡ call.caller = ap (λ (u : Live). u.sender) opens in
    let its_kind : t.kind ≡ kind = ap (λ (u : Live). u.kind) opens in
    let clears = ap (λ (k : Checked). k.desc.clears) c.checked.view_is in
    let same : AreSameEdits (edit_of kind call.caller t.ranges desc.clears) edit =
    subst (λ (k : Kind). AreSameEdits (edit_of k call.caller t.ranges desc.clears) edit) its_kind
    (subst (λ (p : ℕ). AreSameEdits (edit_of t.kind p t.ranges desc.clears) edit) its_sender
    (subst (λ (b : Bool). AreSameEdits (edit_of t.kind t.sender t.ranges b) edit) clears c.in_ok-edit.ensures.same)) in
    let orderly = subst (λ (p : ℕ). AreOrderly p edit) its_sender c.in_ok-edit.ensures.orderly in
    let handle = ap (λ (u : Live). u.handle) c.transaction-2.view_is in
    let reply : success c.low.result c.high.result ≡ success (low_half t.handle) (high_half t.handle) = rw (c.low.ensures, c.high.ensures, handle) refl in
    send_granted s call kind transfer desc home c.args.checked.now.sends t edit _ c.requires.reached checked opens same orderly reply
