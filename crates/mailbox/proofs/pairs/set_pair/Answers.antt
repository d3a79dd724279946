use Rattle.std.proofs.Common.{sym, ap, ◌∙◌, arith}
use Rattle.std.proofs.lemmas.Bool.{eqb-true}
use Rattle.base.specs.Buffers.{with_pair}
use Rattle.mailbox.proofs.Mailboxes.{with_pair_at}
use Rattle.mailbox.proofs.pairs.set_pair.Goals as goal

pub returns-then-eq : goal.returns-then-eq
returns-then-eq c =
    let so_far = c.loop-mailbox.invariant.rest ∙ ap (with_pair c.args.p c.args.pair) c.loop-mailbox.invariant.same in
    let here = eqb-true c.mailbox.inside.partition c.args.p (sym c.eq.ensures ∙ c.if-eq.true) in
    with_pair_at c.args.p c.args.pair c.loop-mailbox.mailboxes _ c.loop-mailbox.mailbox-index _ c.mailbox-item.result (omega arith) c.mailbox.view_is here so_far
