use Rattle.spm.proofs.ReclaimLemmas.{its_sender, its_ranges}
use Rattle.spm.proofs.calls.reclaim.reclaim.Goals as goal

pub returned_by-requires-clause-sender : goal.returned_by-requires-clause-sender
returned_by-requires-clause-sender c = its_sender c.args.state.now c.partition-p.result c.args.handle c.in-Ok.transaction.now c.in-Ok.ensures.passed.found

pub returned_by-requires-clause-apart : goal.returned_by-requires-clause-apart
returned_by-requires-clause-apart c = its_ranges c.args.state.now c.partition-p.result c.args.handle c.in-Ok.transaction.now c.requires c.in-Ok.ensures.passed.found
