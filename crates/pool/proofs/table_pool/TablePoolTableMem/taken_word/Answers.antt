use Rattle.pool.proofs.Names.{common_steps, nat_tests, words_of, arith}
use Rattle.pool.proofs.table_pool.TablePoolTableMem.taken_word.Goals as goal

pub returns : goal.returns
unfolding words_of
returns g c = grind (arith, common_steps, nat_tests)
