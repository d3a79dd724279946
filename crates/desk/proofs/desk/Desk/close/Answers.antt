use Rattle.std.proofs.Common.{◌≡◌, List, length, rules, ap, subst}
use Rattle.std.specs.List.{AllByRecursion}
use Rattle.desk.specs.declared.entry.Entry.{Entry}
use Rattle.desk.specs.Receipts.{receipts_at}
use Rattle.desk.specs.Passes.{known_of}
use Rattle.desk.specs.Seats.{SeatView}
use Rattle.desk.proofs.Settled.{all_settled}
use Rattle.desk.proofs.desk.Desk.close.Goals as goal

pub returns-clause-settled : goal.returns-clause-settled
returns-clause-settled g c =
    let m = g.J.Naming.manifest in
    let shelf = c.book.inside in
    let home = c.bring_home-receipts.ensures in
    let history = ap (λ me. (known_of me.0).history) c.book.invariant.1 in
    let whole = subst (λ (es : List Entry). AllByRecursion (λ (s : SeatView). s.receipts ≡ receipts_at m s.number es) c.args.seats) history home.whole in
    all_settled m shelf.book.calls c.args.seats (search rules) whole home.below home.apart c.book.invariant.3.seated
