use Rattle.pool.proofs.Names.{nat_tests, common_steps, refl, sym, ◌∙◌, arith}
use Rattle.pool.proofs.Nonzero.{read-test}
use Rattle.pool.proofs.Stretches.{first-word, first-set, next-word}
use Rattle.pool.proofs.Wrote.{wrote-none, wrote-next, wrote-pass, next-room}
use Rattle.pool.proofs.stretch.write_others.Goals.{then-before-word, else-before-word}
use Rattle.pool.proofs.stretch.write_others.Goals as goal

pub loop-index-init : goal.loop-index-init
loop-index-init g c =
    record { wrote = wrote-none _ c.args.range.page _ (g.S.WordStore.words c.args.store.now) c.args.log c.requires.ready.counted (λ pool _. first-set c.args.range pool); word = first-word c.args.range; standing = refl }

pub write_word-requires-clause-may : goal.write_word-requires-clause-may
write_word-requires-clause-may g c = grind (arith, common_steps, nat_tests, read-test)

pub write_word-requires-clause-ready : goal.write_word-requires-clause-ready
write_word-requires-clause-ready g c =
    let before = c.loop-index.invariant in
    record { counted = before.wrote.counted; room = next-room c.args.range c.loop-index.index c.loop-index.word c.loop-index.auto.index before.word before.wrote c.loop-index-test.true (λ is. c.if-before-word.true (c.standing_word-before.ensures ∙ is)) c.requires.ready.room }

pub loop-index-preserved : goal.loop-index-preserved
loop-index-preserved g c =
    let s = c.args.range in
    let i = c.loop-index.index in
    let before = c.loop-index.invariant in
    let from = c.loop-index.auto.index in
    let word = next-word s i c.loop-index.word from before.word in
    elim c.if-before-word.branch [
      | then-before-word w ↦
          rw (w.store-is, w.log-is) record {
            wrote = wrote-next s i c.loop-index.word from before.word before.wrote (λ is. w.if-before-word.true (c.standing_word-before.ensures ∙ is)) w.write_word.ensures.wrote;
            word = word;
            standing = w.write_word.ensures.standing ∙ before.standing;
          }
      | else-before-word w ↦
          rw (w.store-is, w.log-is) record {
            wrote = wrote-pass s i c.loop-index.word from before.word before.wrote (omega (arith, c.requires.may.index_in, c.loop-index-test.true)) c.requires.may.page_in.inside (sym c.standing_word-before.ensures ∙ w.if-before-word.false);
            word = word;
            standing = before.standing;
          }
    ]
