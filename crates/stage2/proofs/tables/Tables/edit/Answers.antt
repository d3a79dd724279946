use Rattle.stage2.proofs.Names.{nat_tests, common_steps, has_root, AreEdited, arith, ◌≡◌, false, eqb, sym, ap, subst, ◌∙◌, position, length}
use Rattle.stage2.specs.Tables.{TablesView}
use Rattle.stage2.proofs.Tree.Rows.{row-found}
use Rattle.stage2.proofs.Editing.WholeTables.{view, canonical-inside, edited-rooted, edited-rootless, found-none, turned-found, rootless-edit}
use Rattle.stage2.proofs.tables.Tables.edit.Goals as goal

pub edit_row-requires : goal.edit_row-requires
edit_row-requires g c = grind (arith, common_steps, nat_tests, row-found, view, turned-found)

pub returns-in-Some : goal.returns-in-Some
returns-in-Some g c =
    let layout = c.self.inside.layout in
    let new = c.edit_row.new.memory in
    let row = row-found layout.ids c.args.p c.in-Some.row (sym c.row.ensures.row ∙ c.in-Some.is) in
    subst (λ (t : TablesView). AreEdited c.args.p c.args.runs.now c.args.access.now t (view layout (g.M.TableMem.state new) (g.M.TableMem.room new))) c.self.view_is
    (edited-rooted layout (g.M.TableMem.state c.self.inside.memory) (g.M.TableMem.state new) (g.M.TableMem.room c.self.inside.memory) (g.M.TableMem.room new) c.args.p c.in-Some.row c.args.runs.now c.args.access.now
    row c.self.invariant c.edit_row.ensures.edits c.edit_row.ensures.in_step (g.met.M.TableMem.free_is_zero new) (g.met.M.TableMem.operations_lie_within new) c.edit_row.ensures.room)

-- where the partition has no root, nothing is done
pub returns-in_default : goal.returns-in_default
returns-in_default g c =
    let m = c.self.inside.memory in
    let none = ap (λ (x : TablesView). position (λ id. eqb id c.args.p) x.layout.ids) (sym c.self.view_is) ∙ sym c.row.ensures.row ∙ c.in_default.is in
    let root : has_root c.args.self.now c.args.p ≡ false = found-none c.args.self.now.layout.ids c.args.p none in
    let rows : length c.args.self.now.layout.ids ≡ length c.args.self.now.pool.memory.quotas = subst (λ (t : TablesView). length t.layout.ids ≡ length t.pool.memory.quotas) c.self.view_is c.self.invariant.orderly.rows in
    let canonical = canonical-inside _ _ _ c.args.self.now c.self.view_is c.self.invariant (g.met.M.TableMem.free_is_zero m) (g.met.M.TableMem.operations_lie_within m) in
    edited-rootless c.args.self.now c.args.p c.args.runs.now c.args.access.now root
    (rootless-edit c.args.self.now c.args.p c.args.runs.now c.args.access.now rows root c.requires.can.fits) canonical
