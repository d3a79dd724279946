use Rattle.stage2.proofs.Names.{nat_tests, common_steps, arith}
use Rattle.stage2.proofs.Reading.Rows.{third-row}
use Rattle.stage2.proofs.entries.Entries.pass_same.Goals as goal

pub returns : goal.returns
returns g c = grind (arith, common_steps, nat_tests, third-row)
