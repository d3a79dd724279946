use Rattle.stage2.specs.Sound.{TablesView}
use Rattle.stage2.proofs.Names.{edit_operations, ap, arith}
use Rattle.stage2.proofs.Editing.WholeTables.{view, room-found}
use Rattle.stage2.proofs.tables.Tables.has_room_for_few.Goals as goal

pub returns-in-Some : goal.returns-in-Some
returns-in-Some g c = λ has.
    let t = view c.self.inside.layout (g.M.TableMem.state c.self.inside.memory) (g.M.TableMem.room c.self.inside.memory) in
    let same = ap (λ (t : TablesView). edit_operations c.args.p c.args.runs.now c.args.access.now t) c.self.view_is in
    omega (arith, room-found t c.args.p c.args.runs.now c.args.access.now c.row.result c.row.ensures.row, same, ap (λ (t : TablesView). t.room) c.self.view_is, c.in-Some.ensures.bound, c.has_room-in-Some.ensures.yes has)
