use Rattle.std.proofs.Common.{◌≡◌, sym, ap, ◌∙◌, arith}
use Rattle.desk.specs.Passes.{known_of, number_of, seen_of}
use Rattle.desk.proofs.Moves.{meets_as, homes_as, met_is}
use Rattle.desk.proofs.pass.take_home.Goals as goal

pub join_seat-requires : goal.join_seat-requires
join_seat-requires c =
    let r = c.requires in
    let me = c.args.keeper.now in
    let you = c.args.seat in
    (r.same.0, r.same.1, ap (λ m. m.1) r.seat, omega (arith, r.words), meets_as me.id me.me you.id (number_of you.me.0) you.me r.keeper r.seat)

pub load-requires : goal.load-requires
load-requires c =
    let r = c.requires in
    let j = c.join_seat.ensures in
    let me = c.args.keeper.now.me in
    let you = c.args.seat.me in
    let is = j.2 ∙ met_is me you (number_of you.0) r.keeper r.seat in
    (j.0 ∙ r.same.0, omega (arith, r.words), homes_as _ c.join_seat.new.seat.id c.join_seat.new.seat.me (known_of me.0) (number_of you.0) (seen_of you.0) is)
