use Rattle.spm.proofs.ReceiverLemmas.{completed_state}
use Rattle.spm.proofs.calls.retrieve.complete.Goals as goal

pub returns-clause-ok : goal.returns-clause-ok
returns-clause-ok c =
    let now = c.state.inside in
    let done = c.in_ok-retrieve.ensures in
    completed_state c.fill.result c.args.state.now c.args.p c.args.handle c.args.access now.ledger c.retrieve.new.self now.pairs c.fill.new.self now.partitions.items
    c.state.view_is c.requires c.retrieve.ensures.manifest done.donations done.live c.fill.ensures.refused c.fill.ensures.ok
