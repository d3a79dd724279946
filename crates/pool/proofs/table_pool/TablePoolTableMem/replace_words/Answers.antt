use Rattle.pool.proofs.Names.{nat_tests, common_steps, ◌+◌, ◌-◌, ◌≤◌, arith}
use Rattle.pool.proofs.Replaced.{keeps-replaces}
use Rattle.pool.proofs.Within.{within-replaces}
use Rattle.pool.proofs.Written.{stays, state, pool_in}
use Rattle.pool.proofs.table_pool.TablePoolTableMem.replace_words.Goals as goal

pub invariant_of-self : goal.invariant_of-self
invariant_of-self g c =
    let old = c.args.self.now in
    let r = c.args.range in
    let small : r.first + (r.end - r.first) ≤ 512 = omega (arith, c.requires.ordered, c.requires.index_in) in
    stays old r.page c.requires.page_in c.replace_words-count.ensures.wrote (λ a room. keeps-replaces c.args.p r.page r.first (r.end - r.first) r.word r.step c.args.start a small room) c.replace_words-count.ensures.standing c.requires.taken
    (within-replaces old.ids old.quotas.items c.args.p r.page r.first (r.end - r.first) r.word r.step c.args.start (pool_in old 0) c.requires.page_in small c.requires.partition c.requires.pages_in old.within)

pub returns-clause-state : goal.returns-clause-state
returns-clause-state g c = grind (arith, common_steps, nat_tests, state, keeps-replaces)
