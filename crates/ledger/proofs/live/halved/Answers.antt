use Rattle.std.proofs.Common.{eqb, sym, ap, ◌∙◌, arith}
use Rattle.std.proofs.lemmas.Bool.{eqb-true}
use Rattle.base.specs.Transactions.{Live}
use Rattle.ledger.proofs.Halving.{one_there, position-found, position-none}
use Rattle.ledger.proofs.live.halved.Goals as goal

pub returns-then-eq : goal.returns-then-eq
returns-then-eq c =
    let live = c.args.live.now in
    let same = eqb-true c.transaction.inside.handle c.args.handle (sym c.eq.ensures ∙ c.if-eq.true) in
    position-found c.args.handle live c.point_of-point.result c.in-Some.transaction.now c.point_of-point.ensures c.in-Some.ensures.lookup.3.0 c.in-Some.ensures.lookup.1
    (ap (λ (t : Live). t.handle) (sym c.transaction.view_is) ∙ same)

pub returns-else-eq : goal.returns-else-eq
returns-else-eq c =
    let live = c.args.live.now in
    let i = c.point_of-point.result in
    let other = ap (λ (t : Live). eqb t.handle c.args.handle) (sym c.transaction.view_is) ∙ sym c.eq.ensures ∙ c.if-eq.false in
    position-none c.args.handle live i c.requires c.point_of-point.ensures
    (λ t lt is. ap (λ (u : Live). eqb u.handle c.args.handle) (one_there live i t c.in-Some.transaction.now lt is c.in-Some.ensures.lookup.1) ∙ other)

pub returns-in-None : goal.returns-in-None
returns-in-None c =
    let past = c.in-None.ensures.lookup.3 in
    position-none c.args.handle c.args.live.now c.point_of-point.result c.requires c.point_of-point.ensures (λ t lt is. absurd (omega (arith, lt, past)))
