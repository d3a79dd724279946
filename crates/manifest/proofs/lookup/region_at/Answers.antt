use Rattle.std.proofs.Common.{◌≡◌, true, false, leb, rules, sym, ◌∙◌}
use Rattle.std.proofs.lemmas.List.Sorted.{IsPartitionPoint-from_clause, IsPartitionedBy-leb}
use Rattle.base.specs.Pages.{in_run}
use Rattle.base.specs.Manifest.{RegionRow}
use Rattle.manifest.proofs.Lookups.{end_of, HalvedRegions, halved-regions, ends_rise, find-found, find-gap, find-past}
use Rattle.manifest.proofs.lookup.region_at.Goals as goal

pub returns-in_err-region : goal.returns-in_err-region
returns-in_err-region c =
    let halved : HalvedRegions c.args.regions.now c.partition_point-place.result c.args.page =
    halved-regions c.args.regions.now c.partition_point-place.result c.args.page
    (IsPartitionPoint-from_clause (λ (r : RegionRow). leb (end_of r) c.args.page) c.args.regions.now c.partition_point-place.result c.partition_point-place.ensures.partitioned
    (IsPartitionedBy-leb end_of c.args.regions.now c.args.page (ends_rise 0 c.args.regions.now c.requires)) (λ a r q k. search rules)) in
    let none = find-past c.args.regions.now c.partition_point-place.result c.args.page c.in_err-region.ensures.lookup.3 halved.before in
    rw c.from_residual.ensures (sym none)

pub returns-then-contains : goal.returns-then-contains
returns-then-contains c =
    let halved : HalvedRegions c.args.regions.now c.partition_point-place.result c.args.page =
    halved-regions c.args.regions.now c.partition_point-place.result c.args.page
    (IsPartitionPoint-from_clause (λ (r : RegionRow). leb (end_of r) c.args.page) c.args.regions.now c.partition_point-place.result c.partition_point-place.ensures.partitioned
    (IsPartitionedBy-leb end_of c.args.regions.now c.args.page (ends_rise 0 c.args.regions.now c.requires)) (λ a r q k. search rules)) in
    let inside : in_run c.in_ok-region.region.now.pages c.args.page ≡ true = sym (rw c.pages.ensures.same at c.contains.ensures) ∙ c.if-contains.true in
    sym (find-found 0 c.args.regions.now c.partition_point-place.result c.args.page c.in_ok-region.region.now c.in_ok-region.ensures.lookup.3.0 c.in_ok-region.ensures.lookup.1 halved.before inside)

pub returns-else-contains : goal.returns-else-contains
returns-else-contains c =
    let halved : HalvedRegions c.args.regions.now c.partition_point-place.result c.args.page =
    halved-regions c.args.regions.now c.partition_point-place.result c.args.page
    (IsPartitionPoint-from_clause (λ (r : RegionRow). leb (end_of r) c.args.page) c.args.regions.now c.partition_point-place.result c.partition_point-place.ensures.partitioned
    (IsPartitionedBy-leb end_of c.args.regions.now c.args.page (ends_rise 0 c.args.regions.now c.requires)) (λ a r q k. search rules)) in
    let outside : in_run c.in_ok-region.region.now.pages c.args.page ≡ false = sym (rw c.pages.ensures.same at c.contains.ensures) ∙ c.if-contains.false in
    sym (find-gap 0 c.args.regions.now c.partition_point-place.result c.args.page c.in_ok-region.region.now c.requires c.in_ok-region.ensures.lookup.3.0 c.in_ok-region.ensures.lookup.1 halved.before (halved.after c.in_ok-region.region.now c.in_ok-region.ensures.lookup.3.0 c.in_ok-region.ensures.lookup.1) outside)
