use Rattle.std.proofs.Common.{ap, ◌∙◌}
use Rattle.stage2.specs.Tables.{TablesView}
use Rattle.stage2.proofs.Editing.WholeTables.{canonical-now, room-made}
use Rattle.stage2.proofs.tables.Tables.lengthen.Goals as goal

pub returns : goal.returns
returns g c =
    let layout = c.self.inside.layout in
    let old = c.self.inside.memory in
    let new = c.ready.new.self in
    record {
      layout = ap (λ (t : TablesView). t.layout) c.self.view_is;
      pool = c.ready.ensures.state ∙ ap (λ (t : TablesView). t.pool) c.self.view_is;
      room = room-made c.ready.result c.args.p c.args.runs.now c.args.aim.access layout (g.M.TableMem.state new) (g.M.TableMem.state old) (g.M.TableMem.room new) (g.M.TableMem.room old) c.plan-plan.result.operations c.args.clears c.args.self.now c.ready.ensures.state c.self.view_is c.plan-plan.ensures.operations c.ready.ensures.room;
      canonical = canonical-now layout (g.M.TableMem.state new) (g.M.TableMem.room new) c.ready.ensures.state c.self.invariant (g.met.M.TableMem.free_is_zero new) (g.met.M.TableMem.operations_lie_within new);
    }
