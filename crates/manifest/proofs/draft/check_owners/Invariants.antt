use Rattle.std.proofs.Common.{◌≡◌, drop}
use Rattle.std.specs.List.{list_all}
use Rattle.manifest.specs.Valid.{grants_owner}
use Rattle.manifest.proofs.draft.check_owners.Given as goal

abbrev pub invariant-loop-region : goal.invariant-loop-region
invariant-loop-region l = list_all grants_owner (drop l.region-index l.regions) ≡ list_all grants_owner l.regions
