use Rattle.std.proofs.lemmas.Result.{on_ok_weaker}
use Rattle.stage2.proofs.Names.{View, in_range, IsFilling, nat_tests, common_steps, ◌≡◌, ◌<◌, rules, sym, subst, ◌∙◌, arith}
use Rattle.stage2.proofs.Editing.FillUpward.{can-map, mapped, others, others-more, edge-between, filling-next, filled, segment-alike, in-range-fits}
use Rattle.stage2.proofs.tables.Tables.fill.Goals as goal
use Rattle.stage2.proofs.Editing.Fronts.{below-out}

pub loop-number-init : goal.loop-number-init
loop-number-init g c = grind (arith, common_steps, nat_tests, below-out)

pub map_pending-requires-clause-fits : goal.map_pending-requires-clause-fits
map_pending-requires-clause-fits g c = λ a is.
    let view = g.V.Views.view c.args.views.now c.args.p in
    let l = c.loop-number in
    let e = c.view_from-next.ensures in
    let at = c.new-page.ensures in
    let here = segment-alike view l.number c.new-page.result c.view_from-next.result.end c.view_from-next.result.value at e.in_range e.alike l.number (omega arith) (omega (arith, e.behind, at)) in
    let unlike : (l.access ≡ c.view_from-next.result.value) → ⊥ = search rules in
    can-map l.invariant.filling a is
    (edge-between c.args.self.now.layout (in_range view) c.args.p l.first l.number l.access l.self l.invariant.filling (λ same. unlike (same ∙ here))) (in-range-fits view _ c.requires.fits)

pub map_pending-requires-2-clause-fits : goal.map_pending-requires-2-clause-fits
map_pending-requires-2-clause-fits g c = λ a is.
    let view = g.V.Views.view c.args.views.now c.args.p in
    let l = c.loop-number in
    can-map l.invariant.filling a is
    (grind (arith, common_steps, nat_tests, below-out)) (in-range-fits view _ c.requires.fits)

pub loop-number-preserved-in_ok-map_pending : goal.loop-number-preserved-in_ok-map_pending
loop-number-preserved-in_ok-map_pending g c =
    let view = g.V.Views.view c.args.views.now c.args.p in
    let layout = c.args.self.now.layout in
    let p = c.args.p in
    let l = c.loop-number in
    let end = c.view_from-next.result.end in
    let next = c.view_from-next.result.value in
    let h = l.invariant.filling in
    let s = c.view_from-next.ensures in
    let at = c.new-page.ensures in
    let alike = segment-alike view l.number c.new-page.result end next at s.in_range s.alike in
    let behind_number : l.number < end = omega (arith, s.behind, at) in
    let here = alike l.number (omega arith) behind_number in
    let unlike : (l.access ≡ next) → ⊥ = search rules in
    let edge = edge-between layout (in_range view) p l.first l.number l.access l.self h (λ same. unlike (same ∙ here)) in
    let new = c.map_pending.new.self in
    let e = c.in_ok-map_pending.ensures in
    let walks = mapped h new e.walks in
    let filling = filling-next layout (in_range view) p l.number end new (e.layout ∙ h.placed) e.canonical walks edge behind_number s.in_range (λ n le lt. alike n le lt ∙ sym here) in
    record {
      filling = subst (λ (a : View). IsFilling layout (in_range view) p l.number end a new) here filling;
      others = others-more p c.args.self.now l.self new l.invariant.others (others h new e.walks);
    }

pub loop-number-preserved : goal.loop-number-preserved
loop-number-preserved g c = grind (arith, common_steps, nat_tests, g.V.Views.view c.args.views.now c.args.p, segment-alike)

pub returns-clause-layout : goal.returns-clause-layout
returns-clause-layout g c = on_ok_weaker _ (λ (same : c.map_pending-2.new.self.layout ≡ c.loop-number.self.layout). same ∙ c.loop-number.invariant.filling.placed) c.map_pending-2.ensures.layout

pub returns-clause-walks : goal.returns-clause-walks
returns-clause-walks g c = grind (arith, common_steps, nat_tests, g.V.Views.view c.args.views.now c.args.p, on_ok_weaker, filled)

pub returns-clause-others : goal.returns-clause-others
returns-clause-others g c =
    let l = c.loop-number in
    on_ok_weaker _ (λ reach. others-more c.args.p c.args.self.now l.self c.map_pending-2.new.self l.invariant.others
    (others l.invariant.filling c.map_pending-2.new.self reach)) c.map_pending-2.ensures.walks
