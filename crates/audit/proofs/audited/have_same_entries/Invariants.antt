use Rattle.std.proofs.Common.{◌≡◌}
use Rattle.stage2.specs.Tables.{view_of}
use Rattle.stage2.specs.Listing.{entries}
use Rattle.manifest.proofs.EachPartition.{HoldsBelow}
use Rattle.audit.proofs.audited.have_same_entries.Given as goal

-- the partitions before this one have the same entries
abbrev pub invariant-loop-partition : goal.invariant-loop-partition
invariant-loop-partition g l =
    HoldsBelow l.manifest (λ p. entries (view_of l.tables p) ≡ entries (view_of l.others p)) l.partition-index
