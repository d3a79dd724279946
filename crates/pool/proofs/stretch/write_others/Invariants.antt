use Rattle.pool.proofs.Names.{Wrote, range_set, ◌≡◌, ◌+◌, ◌-◌, ◌*◌}
use Rattle.pool.proofs.stretch.write_others.Given as goal

-- the words before this index are written
abbrev pub invariant-loop-index : goal.invariant-loop-index
invariant-loop-index g l = record {
  wrote : Wrote (range_set (record l.fn.range { end = l.index })) l.fn.range.page (l.index - l.fn.range.first) (g.S.WordStore.words l.fn.store) (g.S.WordStore.words l.store) l.fn.log l.log;
  word : l.word ≡ l.fn.range.word + l.fn.range.step * (l.index - l.fn.range.first);
  standing : g.S.WordStore.stands l.store ≡ g.S.WordStore.stands l.fn.store;
}
