use Rattle.pool.proofs.Names.{Puts, RecordsAll, ◌≡◌, ◌+◌, ◌-◌, ◌*◌}
use Rattle.pool.proofs.block.put_and_record.Given as goal

-- the words before this index are written, and recorded
abbrev pub invariant-loop-index : goal.invariant-loop-index
invariant-loop-index l = record {
  put : Puts (record l.range { end = l.index }) l.fn.cells l.cells;
  recorded : RecordsAll (record l.range { end = l.index }) l.fn.operations l.operations;
  word : l.word ≡ l.range.word + l.range.step * (l.index - l.range.first);
}
