use Rattle.stage2.proofs.Names.{AreFilled, layout_of}
use Rattle.stage2.proofs.tables.Tables.filled.Given as goal

-- the views of the partitions before this one are mapped
abbrev pub invariant-loop-partition : goal.invariant-loop-partition
invariant-loop-partition g l = AreFilled (layout_of l.manifest) (g.V.Views.view l.views) l.partition-index l.tables
