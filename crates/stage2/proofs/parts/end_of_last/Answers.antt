use Rattle.stage2.proofs.Names.{nat_tests, common_steps, ltb-true, arith}
use Rattle.stage2.proofs.Runs.Normal.{end-last}
use Rattle.stage2.proofs.parts.end_of_last.Goals as goal

pub returns-in-Some-clause-same : goal.returns-in-Some-clause-same
returns-in-Some-clause-same c = grind (arith, common_steps, nat_tests, end-last, ltb-true)
