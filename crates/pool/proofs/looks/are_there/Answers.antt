use Rattle.pool.proofs.Names.{common_steps, nat_tests, ◌≡◌, ◌+◌, ◌-◌, arith}
use Rattle.pool.proofs.Nonzero.{word-read}
use Rattle.pool.proofs.Stretches.{next-word}
use Rattle.pool.proofs.looks.are_there.Goals as goal

pub loop-index-preserved : goal.loop-index-preserved
loop-index-preserved g c =
    let s = c.args.range in
    let i = c.loop-index.index in
    let from = c.loop-index.auto.index in
    let before = c.loop-index.invariant in
    let read = word-read (g.S.WordStore.words c.args.store.now) s.page i c.standing_word.result (omega (arith, c.requires.index_in, c.loop-index-test.true)) c.standing_word.ensures in
    let index : s.first + (i - s.first) ≡ i = omega (arith, from) in
    record {
      yes = λ are x lt. grind (arith, nat_tests, before.yes, read, index);
      no = λ not. grind (arith, common_steps, nat_tests);
      word = next-word s i c.loop-index.word from before.word;
    }
