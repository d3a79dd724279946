use Rattle.pool.proofs.Names.{nat_tests, common_steps, reverse, arith}
use Rattle.pool.proofs.RunWords.{keeps-sets}
use Rattle.pool.proofs.Stretches.{nonzero-sets_of}
use Rattle.pool.proofs.Within.{within-behind}
use Rattle.pool.proofs.Written.{stays, state}
use Rattle.pool.proofs.Wrote.{wrote-length}
use Rattle.pool.proofs.table_pool.TablePoolTableMem.clear_words.Goals as goal

pub write_others-operations-requires-clause-ready : goal.write_others-operations-requires-clause-ready
write_others-operations-requires-clause-ready g c = grind (arith, common_steps, nat_tests, nonzero-sets_of)

pub returns-clause-room : goal.returns-clause-room
returns-clause-room g c =
    let old = c.args.self.now in
    let sets = nonzero-sets_of (g.S.WordStore.words old.store) c.args.page 0 512 (omega (arith, old.words_whole, c.requires.page_in)) (omega arith) in
    let wrote = rw c.take-log.ensures at c.write_others-operations.ensures.wrote in
    omega (arith, wrote-length (record { page = c.args.page; first = 0; end = 512; word = 0; step = 0 }) wrote, sets, wrote.grows.capacity)

pub invariant_of-self : goal.invariant_of-self
invariant_of-self g c =
    let old = c.args.self.now in
    stays old c.args.page c.requires.page_in (rw c.take-log.ensures at c.write_others-operations.ensures.wrote) (λ a room. keeps-sets c.args.page 0 512 0 0 a (omega arith) room) c.write_others-operations.ensures.standing c.requires.taken
    (within-behind old.ids old.quotas.items (g.S.WordStore.words old.store) c.args.page 0 512 0 0 (reverse old.operations.items) c.requires.page_in (omega arith) old.within)

pub returns-clause-state : goal.returns-clause-state
returns-clause-state g c = state c.args.self.now c.args.page c.requires.page_in (rw c.take-log.ensures at c.write_others-operations.ensures.wrote) (λ a room. keeps-sets c.args.page 0 512 0 0 a (omega arith) room)
