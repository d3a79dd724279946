use Rattle.pool.proofs.Names.{Puts, ◌≡◌, ◌+◌, ◌-◌, ◌*◌}
use Rattle.pool.proofs.block.put_words.Given as goal

-- the words before this index are written
abbrev pub invariant-loop-index : goal.invariant-loop-index
invariant-loop-index l = record {
  put : Puts (record l.range { end = l.index }) l.fn.cells l.cells;
  next : l.next ≡ l.range.word + l.range.step * (l.index - l.range.first);
}
