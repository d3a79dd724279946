use Rattle.std.proofs.Common.{ap, ◌∙◌}
use Rattle.base.specs.Transactions.{Live}
use Rattle.rules.specs.Calls.Retrieve.{asked, responding}
use Rattle.spm.proofs.ReceiverLemmas.{its_ranges, its_limits, retrieve_granted}
use Rattle.spm.proofs.calls.retrieve.change.Goals as goal

pub respond-requires : goal.respond-requires
respond-requires c =
    let s = c.args.state.now in
    let call = c.args.call.now in
    let passed = c.requires.retrieved in
    its_limits s call.caller (asked s call passed.0).handle c.args.granted.transaction.now c.requires.reached passed.1.found

pub of-requires : goal.of-requires
of-requires c =
    let s = c.args.state.now in
    let call = c.args.call.now in
    let passed = c.requires.retrieved in
    record { apart = its_ranges s call.caller (asked s call passed.0).handle c.args.granted.transaction.now c.requires.reached passed.1.found }

pub returns : goal.returns
returns c = λ transfer retrieved.
    let granted = c.args.granted in
    let edit = c.in_ok-edit in
    retrieve_granted c.args.state.now c.args.call.now transfer c.partition-p.result granted.transaction.now granted.access _ _ c.in_ok-answer.answer
    c.requires.reached retrieved c.partition-p.ensures.same (ap (λ (t : Live). t.handle) c.transaction.view_is) edit.ensures.same edit.ensures.orderly
    (c.in_ok-answer.ensures ∙ ap (λ v. responding v c.partition-p.result (record { transaction = granted.transaction.now; access = granted.access })) c.requires.version)
