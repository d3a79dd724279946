use Rattle.std.proofs.Common.{true, sym, ap, ◌∙◌, arith}
use Rattle.std.proofs.lemmas.Bool.{eqb-true}
use Rattle.base.specs.Buffers.{with_rx}
use Rattle.mailbox.proofs.Mailboxes.{with_rx_at}
use Rattle.mailbox.proofs.pairs.fill_rx.Goals as goal

pub returns-in-Ok-clause-ok : goal.returns-in-Ok-clause-ok
returns-in-Ok-clause-ok c =
    let here = eqb-true c.mailbox.inside.partition c.args.p (sym c.eq.ensures ∙ c.if-eq.true) in
    with_rx_at c.args.p true c.loop-mailbox.mailboxes c.loop-mailbox.mailbox-index _ c.mailbox-item.result _ (omega arith) c.mailbox.view_is here c.in-Ok.ensures.held c.loop-mailbox.invariant.mine c.loop-mailbox.invariant.rest
    ∙ ap (with_rx c.args.p true) c.loop-mailbox.invariant.same
