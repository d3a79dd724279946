use Rattle.stage2.proofs.Names.{words_of, ◌+◌, ◌≤◌, sym, ap, ◌∙◌, arith}
use Rattle.stage2.specs.declared.table_page.Level.TheVariants.{Third}
use Rattle.stage2.proofs.Reading.Cursors.{further, same-more}
use Rattle.stage2.proofs.cursor.Cursor.pass_same.Goals as goal

pub loop-self-preserved : goal.loop-self-preserved
loop-self-preserved g c =
    let words = words_of (g.W.WordSource.words c.args.words.now) in
    let others = words_of (g.V.WordSource.words c.args.others.now) in
    let ours = c.loop-self.self in
    let theirs = c.loop-self.other in
    let so = c.loop-self.invariant in
    let index = c.if-self-other.true in
    let inside : ours.index + 64 ≤ 512 = omega (arith, c.if-self-ge-AT_ONCE.true) in
    record {
      is = further _ words Third ours so.is inside;
      other_is = further _ others Third theirs so.other_is (omega (arith, inside, index));
      table = so.table;
      other_table = so.other_table;
      same = same-more _ _ words others Third c.args.self.now ours c.args.other.now theirs so.is so.other_is so.same c.loop-self-test.true index inside
          (λ x le lt. ap (λ t. words t x) so.table ∙ c.are_same_words.ensures c.if-are_same_words.true x le lt ∙ ap (λ t. others t x) (sym so.other_table));
    }
