use Rattle.pool.proofs.Names.{with_range, ◌≡◌, ◌+◌, ◌-◌, ◌*◌}
use Rattle.pool.proofs.list_pool.VecU64WordStore.set_words.Given as goal

-- the words before this index are written
abbrev pub invariant-loop-index : goal.invariant-loop-index
invariant-loop-index l = record {
  words : l.self.items ≡ with_range l.fn.self.items (record l.range { end = l.index });
  next : l.next ≡ l.range.word + l.range.step * (l.index - l.range.first);
}
