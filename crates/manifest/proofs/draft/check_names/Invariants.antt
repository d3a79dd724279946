use Rattle.std.proofs.Common.{◌≡◌, drop}
use Rattle.std.specs.List.{list_all}
use Rattle.manifest.specs.Valid.{names_partitions}
use Rattle.manifest.proofs.draft.check_names.Given as goal

abbrev pub invariant-loop-region : goal.invariant-loop-region
invariant-loop-region l = list_all (names_partitions l.draft.partitions) (drop l.region-index l.draft.regions) ≡ list_all (names_partitions l.draft.partitions) l.draft.regions
