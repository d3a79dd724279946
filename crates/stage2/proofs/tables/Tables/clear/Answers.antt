use Rattle.stage2.proofs.Names.{ClearsInStep, subst}
use Rattle.stage2.specs.Tables.{TablesView}
use Rattle.stage2.proofs.Editing.WholeTables.{view, canonical-now, cleared-in_step}
use Rattle.stage2.proofs.tables.Tables.clear.Goals as goal

pub returns-clause-canonical : goal.returns-clause-canonical
returns-clause-canonical g c =
    let new = c.clear.new.self in
    canonical-now c.self.inside.layout (g.M.TableMem.state new) (g.M.TableMem.room new) c.clear.ensures.state c.self.invariant (g.met.M.TableMem.free_is_zero new) (g.met.M.TableMem.operations_lie_within new)

pub returns-clause-in_step : goal.returns-clause-in_step
returns-clause-in_step g c =
    let old : TablesView = view c.self.inside.layout (g.M.TableMem.state c.self.inside.memory) (g.M.TableMem.room c.self.inside.memory) in
    let new : TablesView = view c.self.inside.layout (g.M.TableMem.state c.clear.new.self) (g.M.TableMem.room c.clear.new.self) in
    subst (λ (t : TablesView). ClearsInStep c.args.run t new) c.self.view_is (cleared-in_step old c.args.run (g.M.TableMem.state c.clear.new.self) (g.M.TableMem.room c.clear.new.self) c.clear.ensures.state)
