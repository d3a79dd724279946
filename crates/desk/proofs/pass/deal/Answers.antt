use Rattle.std.proofs.Common.{arith}
use Rattle.desk.proofs.Moves.{issues_as}
use Rattle.desk.proofs.pass.deal.Goals as goal

pub split_seat-requires : goal.split_seat-requires
split_seat-requires c =
    let r = c.requires in
    (r.same, omega (arith, r.words), issues_as c.args.keeper.now.id c.args.keeper.now.me r.keeper r.nobody_home)
