use Rattle.std.proofs.Common.{is_some, sym, ◌∙◌, ap}
use Rattle.base.specs.Need as tables
use Rattle.base.specs.Access.{View}
use Rattle.manifest.specs.Valid.{granted_by}
use Rattle.manifest.specs.Boundaries.{Tally}
use Rattle.manifest.proofs.Needs.{reached_up_to-start, reached_up_to-some, reached_up_to-none, reached_up_to-end, may_add, rest_at, run_of-region, count-le}
use Rattle.manifest.proofs.need.reached_gigabytes.Goals.{then-is_some, else-is_some}
use Rattle.manifest.proofs.need.reached_gigabytes.Goals as goal

pub loop-region-init : goal.loop-region-init
loop-region-init c = rw c.new-tally.ensures (reached_up_to-start c.args.regions.now c.args.p c.requires)

pub add-requires-clause-upward : goal.add-requires-clause-upward
add-requires-clause-upward c =
    let may = may_add c.args.regions.now c.args.p c.loop-region.region-index c.loop-region.tally c.region-item.result (run_of-region c.region-item.result c.pages-pages.ensures.legal) c.loop-region.invariant
    (rest_at c.args.regions.now c.loop-region.region-index c.region-item.result c.region-item.is c.loop-region-test.true) in
    rw (c.end.ensures.same, c.pages-pages.ensures.same) may.upward

pub add-requires-clause-in_range : goal.add-requires-clause-in_range
add-requires-clause-in_range c =
    (may_add c.args.regions.now c.args.p c.loop-region.region-index c.loop-region.tally c.region-item.result (run_of-region c.region-item.result c.pages-pages.ensures.legal) c.loop-region.invariant
    (rest_at c.args.regions.now c.loop-region.region-index c.region-item.result c.region-item.is c.loop-region-test.true)).in_range

pub loop-region-preserved : goal.loop-region-preserved
loop-region-preserved c =
    let rest = rest_at c.args.regions.now c.loop-region.region-index c.region-item.result c.region-item.is c.loop-region-test.true in
    elim c.if-is_some.branch [
      | then-is_some w ↦
          let next = reached_up_to-some c.args.regions.now c.args.p c.loop-region.region-index c.loop-region.tally c.region-item.result (run_of-region c.region-item.result c.pages-pages.ensures.legal)
          (ap (λ (a : View). is_some a) (sym c.access.ensures) ∙ sym c.is_some.ensures ∙ w.if-is_some.true) c.loop-region.invariant rest in
          rw (w.tally-is, w.add.ensures, w.number.ensures.same, w.first.ensures.same, w.end.ensures.same, c.pages-pages.ensures.same) next
      | else-is_some w ↦
          let next = reached_up_to-none c.args.regions.now c.args.p c.loop-region.region-index c.loop-region.tally c.region-item.result (run_of-region c.region-item.result c.pages-pages.ensures.legal)
          (ap (λ (a : View). is_some a) (sym c.access.ensures) ∙ sym c.is_some.ensures ∙ w.if-is_some.false) c.loop-region.invariant rest in
          rw w.tally-is next
    ]

pub returns-clause-same : goal.returns-clause-same
returns-clause-same c =
    ap (λ (t : Tally). t.count) c.tally.view_is
    ∙ reached_up_to-end c.args.regions.now c.args.p c.loop-region.region-index c.loop-region.tally c.loop-region-test.false c.loop-region.invariant

pub returns-clause-in_range : goal.returns-clause-in_range
returns-clause-in_range c =
    count-le (tables.is_reached (granted_by c.args.regions.now c.args.p)) 512 c.tally.inside.count
    (ap (λ (t : Tally). t.count) c.tally.view_is
    ∙ reached_up_to-end c.args.regions.now c.args.p c.loop-region.region-index c.loop-region.tally c.loop-region-test.false c.loop-region.invariant)
