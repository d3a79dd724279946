use Rattle.descr.proofs.Runs.{yields_in_order}
use Rattle.descr.proofs.send.SendDesc.ranges.Goals as goal

pub returns-clause-runs : goal.returns-clause-runs
returns-clause-runs c = yields_in_order
