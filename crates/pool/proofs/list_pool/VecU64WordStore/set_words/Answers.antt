use Rattle.pool.proofs.Names.{nat_tests, common_steps, ◌+◌, ◌*◌, slice_set, sym, ap, ◌∙◌, arith}
use Rattle.pool.proofs.Stretches.{length-words_set, first-word, first-words, next-word, next-words}
use Rattle.pool.proofs.list_pool.VecU64WordStore.set_words.Goals as goal

pub loop-index-init : goal.loop-index-init
loop-index-init c = record { words = sym (first-words c.args.range c.args.self.now.items); next = first-word c.args.range }

pub index_mut-requires : goal.index_mut-requires
index_mut-requires c = grind (arith, common_steps, nat_tests, length-words_set)

pub loop-index-preserved : goal.loop-index-preserved
loop-index-preserved c =
    let r = c.args.range in
    let i = c.loop-index.index in
    let before = c.loop-index.invariant in
    let from = c.loop-index.auto.index in
    record {
      words = ap (λ items. slice_set items (512 * r.page + i) c.loop-index.next) before.words ∙ sym (next-words r i c.loop-index.next from before.next c.args.self.now.items);
      next = next-word r i c.loop-index.next from before.next;
    }
