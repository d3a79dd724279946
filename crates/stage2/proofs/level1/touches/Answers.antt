use Rattle.stage2.proofs.Runs.Between.{between-first}
use Rattle.stage2.proofs.Editing.GigabyteByGigabyte.{touched}
use Rattle.stage2.proofs.level1.touches.Goals as goal
use Rattle.stage2.proofs.Names.{nat_tests, common_steps, arith}

pub returns-in-Some-clause-yes : goal.returns-in-Some-clause-yes
returns-in-Some-clause-yes c = λ _ g runs same. grind (arith, common_steps, nat_tests, between-first, touched)
