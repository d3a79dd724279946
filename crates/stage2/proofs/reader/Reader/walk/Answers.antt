use Rattle.stage2.proofs.Names.{nat_tests, common_steps, arith}
use Rattle.stage2.proofs.Tree.Rows.{no-row}
use Rattle.stage2.proofs.reader.Reader.walk.Goals as goal

pub returns-in-None : goal.returns-in-None
returns-in-None g c = grind (arith, common_steps, nat_tests, no-row)
