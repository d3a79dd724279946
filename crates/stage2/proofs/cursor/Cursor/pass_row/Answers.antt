use Rattle.stage2.proofs.Names.{words_of, pages_at, nat_tests, common_steps, ◌≡◌, ◌+◌, ◌*◌, ◌%◌, ap, ◌∙◌, arith}
use Rattle.stage2.proofs.Reading.Cursors.{counted, odd-row, row-none, row-step, steps-suc}
use Rattle.stage2.proofs.cursor.Cursor.pass_row.Goals as goal

pub loop-self-init : goal.loop-self-init
loop-self-init g c = grind (arith, common_steps, nat_tests, row-none)

pub loop-self-preserved : goal.loop-self-preserved
loop-self-preserved g c =
    let words = words_of (g.W.WordSource.words c.args.words.now) in
    let level = c.args.level in
    let cursor = c.loop-self.self in
    let so = c.loop-self.invariant in
    let pages = c.from-step.ensures ∙ c.pages.ensures in
    let at : c.word.result ≡ words cursor.table cursor.index = c.word.ensures ∙ ap (λ n. words n cursor.index) c.number.ensures in
    let place : c.word.result ≡ c.args.word + 4096 * pages_at level * c.loop-self.count = c.if-word-next.false ∙ so.next ∙ ap (λ p. c.args.word + 4096 * p * c.loop-self.count) pages in
    record {
      is = counted _ words level cursor so.is c.if-self-lt-TABLE_WORDS.true c.loop-self-test.true (λ even. odd-row level c.args.word c.loop-self.count c.word.result c.requires.odd place (ap (λ n. n % 2) at ∙ even));
      first = so.first;
      index = omega (arith, so.index);
      next = (grind (arith, common_steps, nat_tests, steps-suc));
      entries = row-step _ words level c.args.self.now cursor c.args.word c.loop-self.count c.word.result so.is so.first so.index c.if-self-lt-TABLE_WORDS.true c.requires.odd at place so.entries;
    }
