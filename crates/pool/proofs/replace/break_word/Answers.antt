use Rattle.pool.proofs.Names.{nat_tests, common_steps, arith}
use Rattle.pool.proofs.Nonzero.{read-test, word-read}
use Rattle.pool.proofs.Words.{word-set}
use Rattle.pool.proofs.Wrote.{wrote-none, wrote-then, wrote-as, wrote-is}
use Rattle.pool.proofs.replace.break_word.Goals as goal

pub returns-then-before-eq0 : goal.returns-then-before-eq0
returns-then-before-eq0 g c = grind (arith, common_steps, nat_tests, word-read, wrote-none)

pub write_word-nonzero-requires-clause-may : goal.write_word-nonzero-requires-clause-may
write_word-nonzero-requires-clause-may g c = grind (arith, common_steps, nat_tests, read-test)

pub returns-clause-wrote : goal.returns-clause-wrote
returns-clause-wrote g c = grind (arith, common_steps, nat_tests, word-read, wrote-as, wrote-then)

pub returns-clause-zero : goal.returns-clause-zero
returns-clause-zero g c = grind (arith, nat_tests, (wrote-is c.write_word-nonzero.ensures.wrote).words, word-set)
