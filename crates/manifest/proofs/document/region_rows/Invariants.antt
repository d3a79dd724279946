use Rattle.manifest.specs.Document.{region_of}
use Rattle.manifest.proofs.Rows.{RowsUpTo}
use Rattle.manifest.proofs.document.region_rows.Given as goal

abbrev pub invariant-loop-i : goal.invariant-loop-i
invariant-loop-i l = RowsUpTo region_of l.values l.i l.rows.items
