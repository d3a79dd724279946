use Rattle.std.proofs.Common.{◌^◌}
use Rattle.base.specs.Access.{is_same}
use Rattle.base.proofs.RunLaws.{are_maximal}
use Rattle.audit.proofs.OneValue.{access_sound}
use Rattle.audit.proofs.law.reached_runs_are_maximal.Goals as goal

pub returns : goal.returns
returns c = λ view. are_maximal is_same view access_sound (2 ^ 27)
