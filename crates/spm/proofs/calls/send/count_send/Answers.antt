use Rattle.std.proofs.Common.{sym, ap, ◌∙◌, arith}
use Rattle.std.proofs.lemmas.Bool.{eqb-true}
use Rattle.base.specs.State.{with_partition}
use Rattle.rules.specs.Calls.Send.{counting}
use Rattle.spm.proofs.Rows.{with_partition_at}
use Rattle.spm.proofs.calls.send.count_send.Goals as goal

pub returns-then-eq : goal.returns-then-eq
returns-then-eq c =
    let so_far = c.loop-row.invariant.rest ∙ ap (with_partition c.args.p counting) c.loop-row.invariant.same in
    let here = eqb-true c.row.inside.partition c.args.p (sym c.eq.ensures ∙ c.if-eq.true) in
    with_partition_at c.args.p counting c.loop-row.partitions _ c.loop-row.row-index _ c.row-item.result (omega arith) c.row.view_is here so_far
