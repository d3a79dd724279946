use Rattle.manifest.specs.Document.{grant_of}
use Rattle.manifest.proofs.Rows.{RowsUpTo}
use Rattle.manifest.proofs.document.grant_rows.Given as goal

abbrev pub invariant-loop-i : goal.invariant-loop-i
invariant-loop-i l = RowsUpTo grant_of l.values l.i l.rows.items
