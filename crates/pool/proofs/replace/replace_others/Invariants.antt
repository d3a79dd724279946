use Rattle.pool.proofs.Names.{Wrote, replaces, ◌≡◌, ◌+◌, ◌-◌, ◌*◌}
use Rattle.pool.proofs.replace.replace_others.Given as goal

-- the words before this index are replaced
abbrev pub invariant-loop-index : goal.invariant-loop-index
invariant-loop-index g l = record {
  wrote : Wrote (replaces (record l.fn.with { range = record l.fn.with.range { end = l.index } })) l.fn.with.range.page (3 * (l.index - l.fn.with.range.first)) (g.S.WordStore.words l.fn.store) (g.S.WordStore.words l.store) l.fn.log l.log;
  word : l.word ≡ l.fn.with.range.word + l.fn.with.range.step * (l.index - l.fn.with.range.first);
  start : l.start ≡ l.fn.with.start + 512 * (l.index - l.fn.with.range.first);
  standing : g.S.WordStore.stands l.store ≡ g.S.WordStore.stands l.fn.store;
}
