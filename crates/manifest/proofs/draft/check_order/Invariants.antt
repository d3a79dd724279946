use Rattle.std.proofs.Common.{◌≡◌, drop}
use Rattle.manifest.specs.Valid.{begin_from}
use Rattle.manifest.proofs.draft.check_order.Given as goal

abbrev pub invariant-loop-region : goal.invariant-loop-region
invariant-loop-region l = begin_from l.end (drop l.region-index l.regions) ≡ begin_from 0 l.regions
