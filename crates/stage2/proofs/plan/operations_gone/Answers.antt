use Rattle.stage2.proofs.Counting.Pieces.{nonzero-most}
use Rattle.stage2.proofs.plan.operations_gone.Goals as goal
use Rattle.stage2.proofs.Names.{nat_tests, common_steps, arith}

pub returns-in-Some-clause-most : goal.returns-in-Some-clause-most
returns-in-Some-clause-most g c = grind (arith, common_steps, nat_tests, nonzero-most)
