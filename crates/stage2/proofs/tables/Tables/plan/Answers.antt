use Rattle.stage2.proofs.Names.{grow, edited, view_of, AreTurnedFor, sym, ap, subst, ◌∙◌}
use Rattle.stage2.specs.Sound.{TablesView}
use Rattle.stage2.proofs.Editing.WholeTables.{view, turned-found, grow-found}
use Rattle.stage2.proofs.tables.Tables.plan.Goals as goal

pub plan_row-requires-clause-turned : goal.plan_row-requires-clause-turned
plan_row-requires-clause-turned g c = λ yes.
    turned-found (view c.self.inside.layout (g.M.TableMem.state c.self.inside.memory) (g.M.TableMem.room c.self.inside.memory)) c.args.p c.args.runs.now c.args.aim.access c.row.result c.row.ensures.row
    (subst (λ (t : TablesView). AreTurnedFor c.args.p c.args.runs.now c.args.aim.access t) (sym c.self.view_is) (c.requires.turned yes))

pub returns-clause-tables : goal.returns-clause-tables
returns-clause-tables g c =
    c.plan_row.ensures.tables
    ∙ grow-found (view c.self.inside.layout (g.M.TableMem.state c.self.inside.memory) (g.M.TableMem.room c.self.inside.memory)) c.args.p c.args.runs.now c.args.aim.access c.row.result c.row.ensures.row
    ∙ ap (λ (t : TablesView). grow (view_of t c.args.p) (edited c.args.runs.now c.args.aim.access (view_of t c.args.p))) c.self.view_is
