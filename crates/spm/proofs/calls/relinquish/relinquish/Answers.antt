use Rattle.std.proofs.Common.{refl, ap}
use Rattle.base.specs.Transactions.{Live}
use Rattle.rules.specs.Calls.Relinquish.{given_up}
use Rattle.spm.proofs.ReceiverLemmas.{its_ranges, relinquish_granted}
use Rattle.spm.proofs.calls.relinquish.relinquish.Goals as goal

pub of-requires : goal.of-requires
of-requires c =
    let s = c.args.state.now in
    let call = c.args.call.now in
    record { apart = its_ranges s call.caller (given_up call).handle c.in-Ok.given.transaction.now c.requires c.in-Ok.ensures.passed.found }

pub returns-in-Ok-of-clause-granted : goal.returns-in-Ok-of-clause-granted
returns-in-Ok-of-clause-granted c =
    let edit = c.in-Ok-of in
    relinquish_granted c.args.state.now c.args.call.now c.partition.result c.in-Ok.given.transaction.now _ _ _ _
    c.in-Ok.ensures.passed c.partition.ensures.same (ap (λ (t : Live). t.handle) c.transaction.view_is) edit.ensures.same edit.ensures.orderly refl
