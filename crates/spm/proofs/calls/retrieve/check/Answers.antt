use Rattle.spm.proofs.ReceiverLemmas.{its_limits, transaction_refuses}
use Rattle.rules.specs.Calls.Retrieve.{asked}
use Rattle.spm.proofs.calls.retrieve.check.Goals as goal

pub check_transaction-requires : goal.check_transaction-requires
check_transaction-requires c =
    let s = c.args.state.now in
    let call = c.args.call.now in
    its_limits s call.caller (asked s call c.args.transfer).handle c.in-Ok.named.transaction.now c.requires c.in-Ok.ensures.passed.found

pub returns-in-Err-check_transaction-clause-refused : goal.returns-in-Err-check_transaction-clause-refused
returns-in-Err-check_transaction-clause-refused c =
    let s = c.args.state.now in
    let call = c.args.call.now in
    let named = c.in-Ok.named in
    transaction_refuses s call c.args.transfer named.request named.transaction.now c.in-Err-check_transaction.status c.in-Ok.ensures.passed
    (c.in-Err-check_transaction.ensures.refused s call.caller c.in-Ok.ensures.caller)
