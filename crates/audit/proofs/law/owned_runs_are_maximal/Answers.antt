use Rattle.std.proofs.Common.{◌^◌}
use Rattle.audit.specs.Runs.{is_same_ownership, ownership}
use Rattle.base.proofs.RunLaws.{are_maximal}
use Rattle.audit.proofs.OneValue.{ownership_sound}
use Rattle.audit.proofs.law.owned_runs_are_maximal.Goals as goal

pub returns : goal.returns
returns c = λ m ds. are_maximal is_same_ownership (ownership m ds) ownership_sound (2 ^ 27)
