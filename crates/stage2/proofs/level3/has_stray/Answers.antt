use Rattle.pool.proofs.Gaps.{rise-normal, gaps-out, gaps-in}
use Rattle.stage2.proofs.Names.{nat_tests, common_steps, arith}
use Rattle.stage2.proofs.Counting.Outcomes.{same-word}
use Rattle.stage2.proofs.level3.has_stray.Goals as goal

pub returns-clause-yes : goal.returns-clause-yes
returns-clause-yes g c = grind (arith, common_steps, nat_tests, gaps-out, rise-normal, same-word)

pub returns-clause-no : goal.returns-clause-no
returns-clause-no g c = grind (arith, common_steps, nat_tests, gaps-in, rise-normal)
