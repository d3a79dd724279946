use Rattle.std.proofs.Common.{sym, ◌∙◌, subst}
use Rattle.desk.specs.Seats.{SeatView}
use Rattle.desk.specs.Receipts.{AreReceiptsOf}
use Rattle.desk.specs.Passes.{seen_of}
use Rattle.desk.proofs.Receipts.{are_receipts}
use Rattle.desk.proofs.seat.Seat.receipts.Goals as goal

pub returns-clause-settled : goal.returns-clause-settled
returns-clause-settled g c =
    let m = g.J.Naming.manifest in
    let inside = c.self.inside in
    let seen = seen_of inside.pass.me.0 in
    let here = subst (AreReceiptsOf m seen inside.number) (sym (c.deref.ensures.value ∙ c.self.invariant.2.answered)) (are_receipts m inside.number seen) in
    subst (λ (s : SeatView). AreReceiptsOf m s.seen s.number c.deref.result.now) c.self.view_is here
