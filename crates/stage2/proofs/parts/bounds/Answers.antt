use Rattle.stage2.proofs.Runs.Normal.{normal-within, normal-first, normal-few}
use Rattle.stage2.proofs.parts.bounds.Goals as goal
use Rattle.stage2.proofs.Names.{nat_tests, common_steps, arith}

pub returns-in-Some : goal.returns-in-Some
returns-in-Some c = grind (arith, common_steps, nat_tests, normal-first, normal-within, normal-few)
