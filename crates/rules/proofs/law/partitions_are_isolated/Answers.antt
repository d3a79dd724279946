use Rattle.rules.proofs.Laws.Isolation.{isolated}
use Rattle.rules.proofs.law.partitions_are_isolated.Goals as goal

pub returns : goal.returns
returns c = isolated
