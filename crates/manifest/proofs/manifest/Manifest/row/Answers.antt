use Rattle.std.proofs.Common.{◌≡◌, ◌==◌, true, false, ltb, rules, sym, ap, ◌∙◌}
use Rattle.std.proofs.lemmas.List.Sorted.{IsPartitionPoint-from_clause}
use Rattle.base.specs.Manifest.{PartitionRow}
use Rattle.manifest.specs.Valid.{rise_from}
use Rattle.manifest.proofs.Facts.{facts}
use Rattle.manifest.proofs.Lookups.{HalvedRows, halved-rows, rows_are_parted, row-found, row-gap, row-past}
use Rattle.manifest.proofs.manifest.Manifest.row.Goals as goal

pub returns-in_err-row : goal.returns-in_err-row
returns-in_err-row c =
    let rise : rise_from 0 c.partitions-rows.result.now ≡ true = rw c.partitions-rows.ensures.same (facts c.args.self.now c.partitions-rows.ensures.valid).rise in
    let halved : HalvedRows c.partitions-rows.result.now c.partition_point-place.result c.args.p =
    halved-rows c.partitions-rows.result.now c.partition_point-place.result c.args.p
    (IsPartitionPoint-from_clause (λ (r : PartitionRow). ltb r.id c.args.p) c.partitions-rows.result.now c.partition_point-place.result c.partition_point-place.ensures.partitioned
    (rows_are_parted c.partitions-rows.result.now c.args.p rise) (λ a r q k. search rules)) in
    rw (c.from_residual.ensures, ← c.partitions-rows.ensures.same) (sym (row-past c.partitions-rows.result.now c.partition_point-place.result c.args.p c.in_err-row.ensures.lookup.3 halved.before))

pub returns-then-eq : goal.returns-then-eq
returns-then-eq c =
    let rise : rise_from 0 c.partitions-rows.result.now ≡ true = rw c.partitions-rows.ensures.same (facts c.args.self.now c.partitions-rows.ensures.valid).rise in
    let halved : HalvedRows c.partitions-rows.result.now c.partition_point-place.result c.args.p =
    halved-rows c.partitions-rows.result.now c.partition_point-place.result c.args.p
    (IsPartitionPoint-from_clause (λ (r : PartitionRow). ltb r.id c.args.p) c.partitions-rows.result.now c.partition_point-place.result c.partition_point-place.ensures.partitioned
    (rows_are_parted c.partitions-rows.result.now c.args.p rise) (λ a r q k. search rules)) in
    let same : (c.in_ok-row.row.now.id == c.args.p) ≡ true = ap (λ (r : PartitionRow). r.id == c.args.p) (sym c.row.view_is) ∙ sym c.eq.ensures ∙ c.if-eq.true in
    rw (← c.partitions-rows.ensures.same) (sym (row-found c.partitions-rows.result.now c.partition_point-place.result c.args.p c.in_ok-row.row.now c.in_ok-row.ensures.lookup.3.0 c.in_ok-row.ensures.lookup.1 halved.before same))

pub returns-else-eq : goal.returns-else-eq
returns-else-eq c =
    let rise : rise_from 0 c.partitions-rows.result.now ≡ true = rw c.partitions-rows.ensures.same (facts c.args.self.now c.partitions-rows.ensures.valid).rise in
    let halved : HalvedRows c.partitions-rows.result.now c.partition_point-place.result c.args.p =
    halved-rows c.partitions-rows.result.now c.partition_point-place.result c.args.p
    (IsPartitionPoint-from_clause (λ (r : PartitionRow). ltb r.id c.args.p) c.partitions-rows.result.now c.partition_point-place.result c.partition_point-place.ensures.partitioned
    (rows_are_parted c.partitions-rows.result.now c.args.p rise) (λ a r q k. search rules)) in
    let differs : (c.in_ok-row.row.now.id == c.args.p) ≡ false = ap (λ (r : PartitionRow). r.id == c.args.p) (sym c.row.view_is) ∙ sym c.eq.ensures ∙ c.if-eq.false in
    rw (← c.partitions-rows.ensures.same) (sym (row-gap 0 c.partitions-rows.result.now c.partition_point-place.result c.args.p c.in_ok-row.row.now rise c.in_ok-row.ensures.lookup.3.0 c.in_ok-row.ensures.lookup.1 halved.before (halved.after c.in_ok-row.row.now c.in_ok-row.ensures.lookup.3.0 c.in_ok-row.ensures.lookup.1) differs))
