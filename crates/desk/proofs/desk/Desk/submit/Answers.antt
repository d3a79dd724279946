use Rattle.std.proofs.Common.{◌≡◌, List, [], ◌∷◌, ◌++◌, ap, ◌∙◌, subst}
use Rattle.desk.specs.declared.receipt.Receipt.{Receipt}
use Rattle.desk.specs.Seats.{SeatView, IsServed}
use Rattle.desk.specs.Passes.{seen_of}
use Rattle.desk.proofs.Settled.{next_seat, answered, settled_more, seat_known}
use Rattle.desk.proofs.desk.Desk.submit.Goals as goal

pub invariant_of-seat-2 : goal.invariant_of-seat-2
invariant_of-seat-2 g c =
    let m = g.J.Naming.manifest in
    let inside = c.seat.inside in
    let me = c.answer.new.pass.me in
    let r = c.in_ok-receipt.receipt in
    let told = c.in_ok-receipt.ensures.told in
    let old : SeatView = record { number = inside.number; seen = seen_of inside.pass.me.0; receipts = inside.receipts.items } in
    let more = c.push_reserved.ensures.items ∙ ap (λ (l : List Receipt). l ++ r ∷ []) c.reserve.ensures.items in (
      c.in_ok-receipt.ensures.same,
      seat_known m c.args.call inside.number old.seen me r told,
      settled_more m c.args.call old me r c.push_reserved.new.self.items c.seat.invariant.2 told more,
    )

pub returns-clause-answered : goal.returns-clause-answered
returns-clause-answered g c =
    let m = g.J.Naming.manifest in
    let inside = c.seat.inside in
    let me = c.answer.new.pass.me in
    let r = c.in_ok-receipt.receipt in
    let told = c.in_ok-receipt.ensures.told in
    let old : SeatView = record { number = inside.number; seen = seen_of inside.pass.me.0; receipts = inside.receipts.items } in
    let more = c.push_reserved.ensures.items ∙ ap (λ (l : List Receipt). l ++ r ∷ []) c.reserve.ensures.items in
    let new = next_seat old me c.push_reserved.new.self.items in
    subst (λ (s : SeatView). IsServed m c.args.call s new) c.seat.view_is
    (answered m c.args.call old me r c.push_reserved.new.self.items c.seat.invariant.2 told more)
