use Rattle.std.proofs.Common.{arith}
use Rattle.pool.proofs.Recorded.{records-none, records-next}
use Rattle.pool.proofs.Stretches.{first-word, next-word}
use Rattle.pool.proofs.stretch.record_all.Goals as goal

pub loop-index-init : goal.loop-index-init
loop-index-init c = record { recorded = records-none c.args.range c.args.operations; word = first-word c.args.range }

pub loop-index-preserved : goal.loop-index-preserved
loop-index-preserved c =
    let i = c.loop-index.index in
    let before = c.loop-index.invariant in
    let from = c.loop-index.auto.index in
    let pushed = c.push_reserved.ensures in
    record {
      recorded = records-next c.args.range i c.loop-index.word from before.word c.args.operations c.loop-index.operations c.push_reserved.new.self (omega (arith, c.requires.index_in, c.loop-index-test.true)) pushed.items (record { len = omega (arith, pushed.len); capacity = pushed.capacity }) before.recorded;
      word = next-word c.args.range i c.loop-index.word from before.word;
    }
