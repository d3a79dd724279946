use Rattle.stage2.proofs.Names.{option_map, row_of, row_quota, nat_tests, common_steps, ◌≡◌, eqb, position, sym, ap, ◌∙◌, arith}
use Rattle.stage2.specs.Tables.{TablesView}
use Rattle.stage2.proofs.Editing.WholeTables.{rootless-need}
use Rattle.stage2.proofs.tables.Tables.used.Given.{Over}
use Rattle.stage2.proofs.tables.Tables.used.Goals as goal

-- the quota is the partition's
quota-is : (g : Over) (c : goal.After-free g) → c.in-Some.quota ≡ row_quota c.args.self.now.layout.quotas (row_of c.args.self.now.layout.ids c.args.p)
quota-is g c = grind (arith, common_steps, nat_tests)

pub overflow_sub-result : goal.overflow_sub-result
overflow_sub-result g c = omega (arith, quota-is g c, c.free.ensures)

pub returns-in-Some : goal.returns-in-Some
returns-in-Some g c = omega (arith, quota-is g c, c.free.ensures)

pub returns-in-None : goal.returns-in-None
returns-in-None g c = grind (arith, common_steps, nat_tests, ap (λ (x : TablesView). option_map (row_quota x.layout.quotas) (position (λ id. eqb id c.args.p) x.layout.ids)) (sym c.self.view_is) ∙ sym c.quota.ensures ∙ c.in-None.is, rootless-need)
