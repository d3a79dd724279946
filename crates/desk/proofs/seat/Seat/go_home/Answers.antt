use Rattle.std.proofs.Common.{◌≡◌, ap, ◌∙◌, subst}
use Rattle.desk.specs.Seats.{SeatView}
use Rattle.desk.specs.Receipts.{receipts_at}
use Rattle.desk.specs.Passes.{known_of, number_of, seen_of, IsOut}
use Rattle.desk.proofs.Settled.{answered_whole, number_is, home_apart}
use Rattle.desk.proofs.seat.Seat.go_home.Goals as goal

pub returns-clause-apart : goal.returns-clause-apart
returns-clause-apart g c =
    let me = c.self.inside.pass.me in
    home_apart (known_of c.args.keeper.now.me.0) (number_of me.0) c.take_home.new.keeper.me (seen_of me.0) c.requires.apart c.take_home.ensures.known c.take_home.ensures.keeper

pub returns-clause-receipts : goal.returns-clause-receipts
returns-clause-receipts g c =
    let m = g.J.Naming.manifest in
    let inside = c.self.inside in
    let k = known_of c.args.keeper.now.me.0 in
    let seen = seen_of inside.pass.me.0 in
    let out : IsOut k inside.number seen = subst (λ n. IsOut k n seen) (number_is inside.number inside.pass.me c.self.invariant.1) c.take_home.ensures.known in
    let whole = answered_whole m inside.number k seen inside.receipts.items out c.self.invariant.2.answered in
    subst (λ (s : SeatView). s.receipts ≡ receipts_at m s.number k.history) c.self.view_is whole
