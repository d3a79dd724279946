use Rattle.std.proofs.Common.{◌≡◌, drop}
use Rattle.std.specs.List.{list_all}
use Rattle.manifest.specs.Valid.{fits_quota}
use Rattle.manifest.proofs.draft.check_quotas.Given as goal

abbrev pub invariant-loop-row : goal.invariant-loop-row
invariant-loop-row l = list_all (fits_quota l.regions) (drop l.row-index l.partitions) ≡ list_all (fits_quota l.regions) l.partitions
