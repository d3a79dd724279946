use Rattle.manifest.specs.Document.{partition_of}
use Rattle.manifest.proofs.Rows.{RowsUpTo}
use Rattle.manifest.proofs.document.partition_rows.Given as goal

abbrev pub invariant-loop-i : goal.invariant-loop-i
invariant-loop-i l = RowsUpTo partition_of l.values l.i l.rows.items
