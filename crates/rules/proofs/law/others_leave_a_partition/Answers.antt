use Rattle.rules.proofs.Laws.Isolation.{others_leave}
use Rattle.rules.proofs.law.others_leave_a_partition.Goals as goal

pub returns : goal.returns
returns c = others_leave
