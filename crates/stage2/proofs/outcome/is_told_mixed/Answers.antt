use Rattle.words.proofs.RoundTrip.{entry-zero}
use Rattle.stage2.proofs.Names.{nat_tests, common_steps, arith}
use Rattle.stage2.proofs.Counting.Pieces.{nonzero-most, zero-beside, word-beside}
use Rattle.stage2.proofs.outcome.is_told_mixed.Goals as goal

pub overflow_add-result : goal.overflow_add-result
overflow_add-result g c = grind (arith, common_steps, nat_tests, nonzero-most)

-- a word beside the runs is 0, and the runs are mapped
pub returns-in-Some-clause-yes : goal.returns-in-Some-clause-yes
returns-in-Some-clause-yes g c = grind (arith, common_steps, nat_tests, zero-beside, entry-zero)

-- one is not 0, and they are unmapped
pub returns-in-None-clause-yes : goal.returns-in-None-clause-yes
returns-in-None-clause-yes g c = grind (arith, common_steps, nat_tests, word-beside)
