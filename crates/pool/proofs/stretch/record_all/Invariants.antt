use Rattle.pool.proofs.Names.{RecordsAll, ◌≡◌, ◌+◌, ◌-◌, ◌*◌}
use Rattle.pool.proofs.stretch.record_all.Given as goal

-- the writes before this index are recorded
abbrev pub invariant-loop-index : goal.invariant-loop-index
invariant-loop-index l = record {
  recorded : RecordsAll (record l.range { end = l.index }) l.fn.operations l.operations;
  word : l.word ≡ l.range.word + l.range.step * (l.index - l.range.first);
}
