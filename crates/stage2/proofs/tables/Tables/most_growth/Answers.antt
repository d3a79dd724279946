use Rattle.stage2.proofs.Names.{nat_tests, common_steps, arith}
use Rattle.stage2.proofs.Editing.WholeTables.{view, grow-found}
use Rattle.stage2.proofs.tables.Tables.most_growth.Goals as goal

pub returns : goal.returns
returns g c = grind (arith, common_steps, nat_tests, grow-found (view c.self.inside.layout (g.M.TableMem.state c.self.inside.memory) (g.M.TableMem.room c.self.inside.memory)) c.args.p c.args.runs.now c.args.access.now c.row.result c.row.ensures.row)
