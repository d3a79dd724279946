use Rattle.std.proofs.Common.{◌∙◌, ap}
use Rattle.base.specs.Need as tables
use Rattle.manifest.specs.Valid.{granted_by}
use Rattle.manifest.specs.Boundaries.{Tally}
use Rattle.manifest.proofs.Needs.{mixed_up_to-start, mixed_up_to-next, mixed_up_to-end, may_pass-first, may_pass-end, rest_at, run_of-region, count-le}
use Rattle.manifest.proofs.need.mixed_chunks.Goals as goal

pub loop-region-init : goal.loop-region-init
loop-region-init c = rw c.new-tally.ensures (mixed_up_to-start c.args.regions.now c.args.p c.requires)

pub pass-requires-clause-in_range : goal.pass-requires-clause-in_range
pass-requires-clause-in_range c =
    (may_pass-first c.args.regions.now c.args.p c.loop-region.region-index c.loop-region.tally c.region-item.result c.loop-region.invariant
    (rest_at c.args.regions.now c.loop-region.region-index c.region-item.result c.region-item.is c.loop-region-test.true)).in_range

pub pass-requires-clause-upward : goal.pass-requires-clause-upward
pass-requires-clause-upward c =
    let may = may_pass-first c.args.regions.now c.args.p c.loop-region.region-index c.loop-region.tally c.region-item.result c.loop-region.invariant
    (rest_at c.args.regions.now c.loop-region.region-index c.region-item.result c.region-item.is c.loop-region-test.true) in
    rw (c.number.ensures.same, c.first.ensures.same, c.pages.ensures.same) may.upward

pub pass-requires-in-loop-region-clause-in_range : goal.pass-requires-in-loop-region-clause-in_range
pass-requires-in-loop-region-clause-in_range c =
    let may = may_pass-end c.args.regions.now c.args.p c.loop-region.region-index c.loop-region.tally c.region-item.result c.loop-region.invariant
    (rest_at c.args.regions.now c.loop-region.region-index c.region-item.result c.region-item.is c.loop-region-test.true) in
    rw (c.pass.ensures, c.number.ensures.same, c.first.ensures.same, c.pages.ensures.same) may.in_range

pub pass-requires-in-loop-region-clause-upward : goal.pass-requires-in-loop-region-clause-upward
pass-requires-in-loop-region-clause-upward c =
    let may = may_pass-end c.args.regions.now c.args.p c.loop-region.region-index c.loop-region.tally c.region-item.result c.loop-region.invariant
    (rest_at c.args.regions.now c.loop-region.region-index c.region-item.result c.region-item.is c.loop-region-test.true) in
    rw (c.pass.ensures, c.number.ensures.same, c.first.ensures.same, c.pages.ensures.same, c.end.ensures.same, c.pages-in-loop-region.ensures.same) may.upward

pub loop-region-preserved : goal.loop-region-preserved
loop-region-preserved c =
    let next = mixed_up_to-next c.args.regions.now c.args.p c.loop-region.region-index c.loop-region.tally c.region-item.result (run_of-region c.region-item.result c.pages.ensures.legal) c.loop-region.invariant
    (rest_at c.args.regions.now c.loop-region.region-index c.region-item.result c.region-item.is c.loop-region-test.true) in
    rw (c.pass-in-loop-region.ensures, c.pass.ensures, c.number.ensures.same, c.first.ensures.same, c.pages.ensures.same, c.end.ensures.same, c.pages-in-loop-region.ensures.same) next

pub returns-clause-same : goal.returns-clause-same
returns-clause-same c =
    ap (λ (t : Tally). t.count) c.tally.view_is
    ∙ mixed_up_to-end c.args.regions.now c.args.p c.loop-region.region-index c.loop-region.tally c.loop-region-test.false c.loop-region.invariant

pub returns-clause-in_range : goal.returns-clause-in_range
returns-clause-in_range c =
    count-le (tables.is_mixed (granted_by c.args.regions.now c.args.p)) 262144 c.tally.inside.count
    (ap (λ (t : Tally). t.count) c.tally.view_is
    ∙ mixed_up_to-end c.args.regions.now c.args.p c.loop-region.region-index c.loop-region.tally c.loop-region-test.false c.loop-region.invariant)
