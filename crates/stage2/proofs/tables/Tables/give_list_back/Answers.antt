use Rattle.stage2.proofs.Editing.WholeTables.{canonical-now}
use Rattle.stage2.proofs.tables.Tables.give_list_back.Goals as goal

pub returns-clause-canonical : goal.returns-clause-canonical
returns-clause-canonical g c =
    let new = c.give_list_back.new.self in
    canonical-now c.self.inside.layout (g.M.TableMem.state new) (g.M.TableMem.room new) c.give_list_back.ensures c.self.invariant (g.met.M.TableMem.free_is_zero new) (g.met.M.TableMem.operations_lie_within new)
