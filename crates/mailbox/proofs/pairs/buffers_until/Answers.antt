use Rattle.std.proofs.Common.{◌||◌, refl, arith}
use Rattle.base.specs.Buffers.{is_buffer}
use Rattle.mailbox.specs.Buffers.{has_buffer_at}
use Rattle.base.proofs.Segments.{alike-more}
use Rattle.mailbox.proofs.pairs.buffers_until.Goals as goal

pub loop-mailbox-preserved : goal.loop-mailbox-preserved
loop-mailbox-preserved c =
    let until = c.buffer_until-until.ensures in
    record {
      behind = until.behind;
      inside = omega (arith, until.inside, c.loop-mailbox.invariant.inside);
      done = λ end rest. c.loop-mailbox.invariant.done end (alike-more is_buffer has_buffer_at (λ box. ◌||◌) (λ box boxes n. refl) c.args.mailboxes.now c.loop-mailbox.mailbox-index c.mailbox-item.result c.args.page c.loop-mailbox.until c.buffer_until-until.result end c.loop-mailbox-test.true c.mailbox-item.is until rest);
    }
