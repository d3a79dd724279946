use Rattle.stage2.proofs.Walkers.Level3Write.{slot-zero}
use Rattle.stage2.proofs.level2.plain_until.Goals as goal
use Rattle.stage2.proofs.Names.{nat_tests, common_steps, arith}

-- a word that is 0 is no table
pub returns-then-is_empty-clause-plain : goal.returns-then-is_empty-clause-plain
returns-then-is_empty-clause-plain g c = grind (arith, common_steps, nat_tests, slot-zero)
