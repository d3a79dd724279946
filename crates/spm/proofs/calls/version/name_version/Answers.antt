use Rattle.std.proofs.Common.{sym, ap, ◌∙◌, arith}
use Rattle.std.proofs.lemmas.Bool.{eqb-true}
use Rattle.std.proofs.Math.ListN.{set}
use Rattle.base.specs.declared.partition.Version.{Version}
use Rattle.base.specs.State.{PartitionState, with_partition}
use Rattle.rules.specs.Calls.Version.{naming}
use Rattle.spm.proofs.Rows.{with_partition_at}
use Rattle.spm.proofs.calls.version.name_version.Goals as goal

pub returns-then-eq : goal.returns-then-eq
returns-then-eq c =
    let row : Version → PartitionState = λ v. record { partition = c.row.inside.partition; version = v; sends = c.row.inside.sends } in
    let so_far = c.loop-row.invariant.rest ∙ ap (with_partition c.args.p (naming c.args.word)) c.loop-row.invariant.same in
    let here = eqb-true c.row.inside.partition c.args.p (sym c.eq.ensures ∙ c.if-eq.true) in
    ap (λ (v : Version). set c.loop-row.partitions c.loop-row.row-index (row v)) c.version_after-row-inside.ensures
    ∙ with_partition_at c.args.p (naming c.args.word) c.loop-row.partitions _ c.loop-row.row-index _ c.row-item.result (omega arith) c.row.view_is here so_far
