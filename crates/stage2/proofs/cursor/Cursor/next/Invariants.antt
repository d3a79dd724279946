use Rattle.stage2.proofs.Names.{words_of, left_in, IsCursor, ◌≡◌, ◌-◌}
use Rattle.stage2.proofs.cursor.Cursor.next.Given as goal

-- the words that were read are of no entry
abbrev pub invariant-loop-self : goal.invariant-loop-self
invariant-loop-self g l = record {
  is : IsCursor (g.W.WordSource.pages l.words) (words_of (g.W.WordSource.words l.words)) l.level l.self;
  same : left_in (words_of (g.W.WordSource.words l.words)) l.self ≡ left_in (words_of (g.W.WordSource.words l.words)) l.initial.self;
}

abbrev pub decreases-loop-self : goal.decreases-loop-self
decreases-loop-self g l = 512 - l.self.index
