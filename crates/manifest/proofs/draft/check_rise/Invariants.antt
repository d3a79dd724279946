use Rattle.std.proofs.Common.{◌≡◌, drop}
use Rattle.manifest.specs.Valid.{rise_from}
use Rattle.manifest.proofs.draft.check_rise.Given as goal

abbrev pub invariant-loop-row : goal.invariant-loop-row
invariant-loop-row l = rise_from l.least (drop l.row-index l.partitions) ≡ rise_from 0 l.partitions
