use Rattle.std.proofs.Common.{◌<◌, leb, rules, ap, ◌∙◌, arith}
use Rattle.std.proofs.lemmas.List.Sorted.{IsPartitionPoint-from_clause, IsPartitionedBy-leb}
use Rattle.base.specs.Manifest.{RegionRow}
use Rattle.base.specs.Pages.{PageRun}
use Rattle.manifest.proofs.Lookups.{end_of, HalvedRegions, halved-regions, ends_rise, gap-before, gap-on, gap-past}
use Rattle.manifest.proofs.lookup.gap_until.Goals as goal

pub returns-in-Some-clause-behind : goal.returns-in-Some-clause-behind
returns-in-Some-clause-behind c =
    let regions = c.args.regions.now in
    let place = c.partition_point-place.result in
    let r = c.in-Some.region.now in
    let halved : HalvedRegions regions place c.args.page =
    halved-regions regions place c.args.page
    (IsPartitionPoint-from_clause (λ (r : RegionRow). leb (end_of r) c.args.page) regions place c.partition_point-place.ensures.partitioned
    (IsPartitionedBy-leb end_of regions c.args.page (ends_rise 0 regions c.requires.begins)) (λ a r q k. search rules)) in
    let below = c.in-Some.ensures.lookup.3.0 in
    let is = c.in-Some.ensures.lookup.1 in
    let before = gap-before regions place c.args.page r below is halved.before (halved.after r below is) c.requires.gap in
    omega (arith, before, c.number.ensures.same ∙ c.first.ensures.same, ap (λ (run : PageRun). run.first) c.pages.ensures.same)

pub returns-in-Some-clause-gap : goal.returns-in-Some-clause-gap
returns-in-Some-clause-gap c = λ n from to.
    let regions = c.args.regions.now in
    let place = c.partition_point-place.result in
    let r = c.in-Some.region.now in
    let halved : HalvedRegions regions place c.args.page =
    halved-regions regions place c.args.page
    (IsPartitionPoint-from_clause (λ (r : RegionRow). leb (end_of r) c.args.page) regions place c.partition_point-place.ensures.partitioned
    (IsPartitionedBy-leb end_of regions c.args.page (ends_rise 0 regions c.requires.begins)) (λ a r q k. search rules)) in
    let under : n < r.pages.first = omega (arith, to, c.number.ensures.same ∙ c.first.ensures.same, ap (λ (run : PageRun). run.first) c.pages.ensures.same) in
    gap-on regions place c.args.page n r c.requires.begins c.in-Some.ensures.lookup.3.0 c.in-Some.ensures.lookup.1 halved.before from under

pub returns-in-None-clause-gap : goal.returns-in-None-clause-gap
returns-in-None-clause-gap c = λ n from to.
    let regions = c.args.regions.now in
    let place = c.partition_point-place.result in
    let halved : HalvedRegions regions place c.args.page =
    halved-regions regions place c.args.page
    (IsPartitionPoint-from_clause (λ (r : RegionRow). leb (end_of r) c.args.page) regions place c.partition_point-place.ensures.partitioned
    (IsPartitionedBy-leb end_of regions c.args.page (ends_rise 0 regions c.requires.begins)) (λ a r q k. search rules)) in
    gap-past regions place c.args.page n c.in-None.ensures.lookup.3 halved.before from
