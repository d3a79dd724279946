use Rattle.std.proofs.Common.{sym, ap, ◌∙◌, arith}
use Rattle.std.proofs.lemmas.Bool.{eqb-true}
use Rattle.ledger.specs.Changes.{with_retrieved}
use Rattle.ledger.proofs.Receivers.{with_retrieved_at}
use Rattle.ledger.proofs.live.set_receiver.Goals as goal

pub returns-then-eq : goal.returns-then-eq
returns-then-eq c =
    let so_far = c.loop-receiver.invariant.rest ∙ ap (with_retrieved c.args.p c.args.retrieved) c.loop-receiver.invariant.same in
    let here = eqb-true c.receiver.inside.partition c.args.p (sym c.eq.ensures ∙ c.if-eq.true) in
    with_retrieved_at c.args.p c.args.retrieved c.loop-receiver.receivers _ c.loop-receiver.receiver-index _ c.receiver-item.result (omega arith) c.receiver.view_is here so_far
