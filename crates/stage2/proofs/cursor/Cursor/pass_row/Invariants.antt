use Rattle.stage2.proofs.Names.{words_of, left_in, entry_row, next_first, IsCursor, ◌≡◌, ◌+◌, ◌-◌, ◌*◌, ◌++◌}
use Rattle.stage2.proofs.cursor.Cursor.pass_row.Given as goal

-- the words that were passed stand in a row
abbrev pub invariant-loop-self : goal.invariant-loop-self
invariant-loop-self g l = record {
  is : IsCursor (g.W.WordSource.pages l.words) (words_of (g.W.WordSource.words l.words)) l.fn.level l.self;
  first : l.self.first ≡ l.initial.self.first;
  index : l.self.index ≡ l.initial.self.index + l.count;
  next : l.next ≡ l.word + l.step * l.count;
  entries : left_in (words_of (g.W.WordSource.words l.words)) l.initial.self ≡ entry_row l.fn.level (next_first l.fn.level l.initial.self) l.word l.count ++ left_in (words_of (g.W.WordSource.words l.words)) l.self;
}

abbrev pub decreases-loop-self : goal.decreases-loop-self
decreases-loop-self g l = 512 - l.self.index
