use Rattle.stage2.proofs.Names.{view_of, ap, arith}
use Rattle.stage2.specs.Tables.{TablesView}
use Rattle.stage2.proofs.Editing.WholeTables.{canonical-inside, ready-already, room-most}
use Rattle.stage2.proofs.tables.Tables.make_room.Goals as goal

pub returns-then-has_room : goal.returns-then-has_room
returns-then-has_room g c =
    let m = c.self.inside.memory in
    let most = room-most c.args.self.now c.args.p c.args.runs.now c.args.aim.access c.most_operations.result (c.most_operations.ensures.bound (view_of c.args.self.now c.args.p) c.args.aim.access) in
    ready-already _ c.args.p c.args.runs.now c.args.aim.access c.args.clears c.args.self.now (omega (arith, most, ap (λ (t : TablesView). t.room) c.self.view_is, c.has_room.ensures.yes c.if-has_room.true))
    (canonical-inside _ _ _ c.args.self.now c.self.view_is c.self.invariant (g.met.M.TableMem.free_is_zero m) (g.met.M.TableMem.operations_lie_within m))

pub returns-then-has_room_for_few : goal.returns-then-has_room_for_few
returns-then-has_room_for_few g c =
    let m = c.self.inside.memory in
    ready-already _ c.args.p c.args.runs.now c.args.aim.access c.args.clears c.args.self.now (c.has_room_for_few.ensures c.if-has_room_for_few.true)
    (canonical-inside _ _ _ c.args.self.now c.self.view_is c.self.invariant (g.met.M.TableMem.free_is_zero m) (g.met.M.TableMem.operations_lie_within m))
