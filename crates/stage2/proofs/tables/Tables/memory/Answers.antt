use Rattle.stage2.proofs.Editing.WholeTables.{canonical-inside}
use Rattle.stage2.proofs.tables.Tables.memory.Goals as goal

pub returns-clause-canonical : goal.returns-clause-canonical
returns-clause-canonical g c =
    let m = c.self.inside.memory in
    canonical-inside _ _ _ c.args.self.now c.self.view_is c.self.invariant (g.met.M.TableMem.free_is_zero m) (g.met.M.TableMem.operations_lie_within m)
