use Rattle.pool.proofs.Names.{AreThere, ◌≡◌, ◌+◌, ◌-◌, ◌*◌, true, false}
use Rattle.pool.specs.Writing.{IsMissing}
use Rattle.pool.proofs.looks.are_there.Given as goal

-- the words before this one are there, or one of them is not
abbrev pub invariant-loop-index : goal.invariant-loop-index
invariant-loop-index g l = record {
  yes : l.are ≡ true → AreThere (g.S.WordStore.words l.store) (record l.range { end = l.index });
  no : l.are ≡ false → IsMissing (g.S.WordStore.words l.store) (record l.range { end = l.index });
  word : l.word ≡ l.range.word + l.range.step * (l.index - l.range.first);
}
