use Rattle.std.proofs.Common.{arith}
use Rattle.pool.proofs.Recorded.{records-none, records-next, puts-none, puts-next}
use Rattle.pool.proofs.Stretches.{first-word, next-word}
use Rattle.pool.proofs.block.put_and_record.Goals as goal

pub loop-index-init : goal.loop-index-init
loop-index-init c = record { put = puts-none c.args.range c.args.cells.now c.requires.may.filled; recorded = records-none c.args.range c.args.operations; word = first-word c.args.range }

pub loop-index-preserved : goal.loop-index-preserved
loop-index-preserved c =
    let r = c.args.range in
    let i = c.loop-index.index in
    let before = c.loop-index.invariant in
    let from = c.loop-index.auto.index in
    let wrote = c.put_word.ensures in
    let pushed = c.push_reserved.ensures in
    record {
      put = puts-next r i c.loop-index.word from before.word _ _ _ wrote.place wrote.len wrote.filled wrote.words wrote.marked before.put;
      recorded = records-next r i c.loop-index.word from before.word c.args.operations c.loop-index.operations c.push_reserved.new.self (omega (arith, c.requires.may.index_in, c.loop-index-test.true)) pushed.items (record { len = omega (arith, pushed.len); capacity = pushed.capacity }) before.recorded;
      word = next-word r i c.loop-index.word from before.word;
    }
