use Rattle.pool.proofs.Recorded.{puts-none, puts-next}
use Rattle.pool.proofs.Stretches.{first-word, next-word}
use Rattle.pool.proofs.block.put_words.Goals as goal

pub loop-index-init : goal.loop-index-init
loop-index-init c = record { put = puts-none c.args.range c.args.cells.now c.requires.filled; next = first-word c.args.range }

pub loop-index-preserved : goal.loop-index-preserved
loop-index-preserved c =
    let i = c.loop-index.index in
    let before = c.loop-index.invariant in
    let from = c.loop-index.auto.index in
    let wrote = c.put_word.ensures in
    record {
      put = puts-next c.args.range i c.loop-index.next from before.next _ _ _ wrote.place wrote.len wrote.filled wrote.words wrote.marked before.put;
      next = next-word c.args.range i c.loop-index.next from before.next;
    }
