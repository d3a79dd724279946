use Rattle.stage2.proofs.Names.{PartitionRow, nat_tests, common_steps, ◌≡◌, ◌<◌, List, length, get_or, ap, subst, ◌∙◌, arith}
use Rattle.manifest.proofs.Facts.{facts}
use Rattle.stage2.proofs.Counting.Quotas.{quota_at}
use Rattle.stage2.proofs.Editing.FillPartitions.{filled-none, not-filled, filled-more, filled-all}
use Rattle.stage2.proofs.tables.Tables.filled.Goals as goal

pub loop-partition-init : goal.loop-partition-init
loop-partition-init g c = filled-none c.args.manifest.now (g.V.Views.view c.args.views.now) c.in_ok-tables.tables c.in_ok-tables.ensures.layout c.in_ok-tables.ensures.canonical c.in_ok-tables.ensures.unmapped

pub fill-requires-clause-fits : goal.fill-requires-clause-fits
fill-requires-clause-fits g c = grind (arith, common_steps, nat_tests, quota_at)

pub fill-requires-clause-unmapped : goal.fill-requires-clause-unmapped
fill-requires-clause-unmapped g c =
    let m = c.args.manifest.now in
    let i = c.loop-partition.partition-index in
    let item = c.partition-item.result in
    let same = c.partitions-partition-items.ensures.same in
    let lt : i < length m.partitions = subst (λ (xs : List PartitionRow). i < length xs) same c.loop-partition-test.true in
    let is : item ≡ get_or m.partitions i item = subst (λ (xs : List PartitionRow). item ≡ get_or xs i item) same c.partition-item.is in
    let id : c.partition.inside.id ≡ item.id = ap (λ (x : PartitionRow). x.id) c.partition.view_is in
    not-filled m (g.V.Views.view c.args.views.now) i c.partition.inside.id item (facts m c.partitions-partition-items.ensures.valid) lt is id c.loop-partition.tables c.loop-partition.invariant

pub loop-partition-preserved : goal.loop-partition-preserved
loop-partition-preserved g c = grind (arith, common_steps, nat_tests, filled-more, facts)

pub returns-clause-agrees : goal.returns-clause-agrees
returns-clause-agrees g c = grind (arith, common_steps, nat_tests, g.V.Views.view c.args.views.now, filled-all, c.requires.fits c.partitions-partition-items.ensures.valid)

pub returns-clause-layout : goal.returns-clause-layout
returns-clause-layout g c = c.give_list_back.ensures.layout ∙ c.loop-partition.invariant.placed
