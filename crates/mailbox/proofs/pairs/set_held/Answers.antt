use Rattle.std.proofs.Common.{sym, ap, ◌∙◌, arith}
use Rattle.std.proofs.lemmas.Bool.{eqb-true}
use Rattle.base.specs.Buffers.{with_rx}
use Rattle.mailbox.proofs.Mailboxes.{with_rx_at}
use Rattle.mailbox.proofs.pairs.set_held.Goals as goal

pub returns-then-eq : goal.returns-then-eq
returns-then-eq c =
    let here = eqb-true c.mailbox.inside.partition c.args.p (sym c.eq.ensures ∙ c.if-eq.true) in
    with_rx_at c.args.p c.args.held c.loop-mailbox.mailboxes c.loop-mailbox.mailbox-index _ c.mailbox-item.result c.with_held-mailbox-inside.result (omega arith) c.mailbox.view_is here c.with_held-mailbox-inside.ensures c.loop-mailbox.invariant.mine c.loop-mailbox.invariant.rest
    ∙ ap (with_rx c.args.p c.args.held) c.loop-mailbox.invariant.same
