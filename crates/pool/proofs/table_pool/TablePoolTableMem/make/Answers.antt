use Rattle.pool.proofs.Names.{nat_tests, common_steps, arith}
use Rattle.pool.proofs.Words.{words_of-zeros}
use Rattle.pool.proofs.Nonzero.{counts_nonzero-new}
use Rattle.pool.proofs.Kept.{roots-new, taken_of-new, page_count-le, counts-new}
use Rattle.pool.proofs.table_pool.TablePoolTableMem.make.Goals as goal

pub invariant_of-result-2 : goal.invariant_of-result-2
invariant_of-result-2 g c = grind (arith, common_steps, nat_tests, counts-new, counts_nonzero-new, page_count-le, roots-new, words_of-zeros, taken_of-new)
