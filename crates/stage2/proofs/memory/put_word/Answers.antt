use Rattle.stage2.proofs.Names.{nat_tests, common_steps, arith}
use Rattle.pool.proofs.Words.{pages_of-set}
use Rattle.stage2.proofs.memory.put_word.Goals as goal

pub returns-clause-pages : goal.returns-clause-pages
returns-clause-pages g c = grind (arith, common_steps, nat_tests, pages_of-set)

pub returns-clause-history : goal.returns-clause-history
returns-clause-history g c = grind (arith, common_steps, nat_tests, pages_of-set)
