use Rattle.std.proofs.Common.{◌≡◌, drop}
use Rattle.std.specs.List.{list_all}
use Rattle.manifest.specs.Valid.{is_partition_row}
use Rattle.manifest.proofs.draft.check_partitions.Given as goal

abbrev pub invariant-loop-row : goal.invariant-loop-row
invariant-loop-row l = list_all is_partition_row (drop l.row-index l.partitions) ≡ list_all is_partition_row l.partitions
