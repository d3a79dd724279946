use Rattle.pool.proofs.Names.{nat_tests, common_steps, arith}
use Rattle.pool.proofs.Nonzero.{read-test}
use Rattle.pool.proofs.Replaced.{keeps-set}
use Rattle.pool.proofs.Stretches.{vec_len-made}
use Rattle.pool.proofs.Wrote.{wrote-is}
use Rattle.pool.proofs.Written.{stays, state}
use Rattle.pool.proofs.table_pool.TablePoolTableMem.set_word.Goals as goal

pub invariant_of-self : goal.invariant_of-self
invariant_of-self g c = stays c.args.self.now c.args.page c.requires.page_in c.write_word-count.ensures.wrote (λ a room. keeps-set c.args.page c.args.index c.args.word a c.requires.index_in room) c.write_word-count.ensures.standing c.requires.taken (grind (arith, nat_tests, c.args.self.now.within))

pub returns-clause-state : goal.returns-clause-state
returns-clause-state g c = state c.args.self.now c.args.page c.requires.page_in c.write_word-count.ensures.wrote (λ a room. keeps-set c.args.page c.args.index c.args.word a c.requires.index_in room)

pub write_word-count-requires-clause-may : goal.write_word-count-requires-clause-may
write_word-count-requires-clause-may g c = grind (arith, common_steps, nat_tests, read-test)

pub returns-clause-room : goal.returns-clause-room
returns-clause-room g c = grind (arith, common_steps, nat_tests, wrote-is c.write_word-count.ensures.wrote, vec_len-made)
