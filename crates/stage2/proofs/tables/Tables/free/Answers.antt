use Rattle.stage2.proofs.Names.{need, row_of, row_quota, pages_of, free_of, view_of, nat_tests, common_steps, ◌≡◌, ◌+◌, ap, sym, subst, ◌∙◌, arith}
use Rattle.stage2.specs.Tables.{TablesView}
use Rattle.stage2.proofs.Editing.WholeTables.{view, free-and-need}
use Rattle.stage2.proofs.Tree.Rows.{row-found}
use Rattle.stage2.proofs.tables.Tables.free.Goals as goal
use Rattle.pool.proofs.Shares.{row_quota-none}

pub returns-in-Some : goal.returns-in-Some
returns-in-Some g c =
    let p = c.args.p in
    let inside = view c.self.inside.layout (g.M.TableMem.state c.self.inside.memory) (g.M.TableMem.room c.self.inside.memory) in
    let row = row-found inside.layout.ids p c.in-Some.row (sym c.row.ensures.row ∙ c.in-Some.is) in
    subst (λ (t : TablesView). c.free.result + need (view_of t p) ≡ row_quota t.layout.quotas (row_of t.layout.ids p)) c.self.view_is
    (ap (λ f. f + need (view_of inside p)) (c.free.ensures ∙ ap (free_of (pages_of inside.pool.memory)) (c.number.ensures ∙ row.is)) ∙ free-and-need inside p c.self.invariant)

pub returns-in-None : goal.returns-in-None
returns-in-None g c =
    let p = c.args.p in
    let inside = view c.self.inside.layout (g.M.TableMem.state c.self.inside.memory) (g.M.TableMem.room c.self.inside.memory) in
    subst (λ (t : TablesView). 0 + need (view_of t p) ≡ row_quota t.layout.quotas (row_of t.layout.ids p)) c.self.view_is
    (ap (λ f. f + need (view_of inside p)) (sym (grind (arith, common_steps, nat_tests, row_quota-none))) ∙ free-and-need inside p c.self.invariant)
