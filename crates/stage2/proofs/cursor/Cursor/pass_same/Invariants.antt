use Rattle.stage2.proofs.Names.{words_of, left_in, IsCursor, PassTheSame, ◌≡◌, ◌-◌}
use Rattle.stage2.specs.declared.table_page.Level.TheVariants.{Third}
use Rattle.stage2.proofs.cursor.Cursor.pass_same.Given as goal

abbrev pub invariant-loop-self : goal.invariant-loop-self
invariant-loop-self g l = record {
  is : IsCursor (g.W.WordSource.pages l.words) (words_of (g.W.WordSource.words l.words)) Third l.self;
  other_is : IsCursor (g.V.WordSource.pages l.others) (words_of (g.V.WordSource.words l.others)) Third l.other;
  table : l.self.table ≡ l.table;
  other_table : l.other.table ≡ l.other_table;
  same : PassTheSame (left_in (words_of (g.W.WordSource.words l.words)) l.initial.self) (left_in (words_of (g.W.WordSource.words l.words)) l.self) (left_in (words_of (g.V.WordSource.words l.others)) l.initial.other) (left_in (words_of (g.V.WordSource.words l.others)) l.other);
}

abbrev pub decreases-loop-self : goal.decreases-loop-self
decreases-loop-self g l = 512 - l.self.index
