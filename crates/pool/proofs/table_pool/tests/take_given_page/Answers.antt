use Rattle.std.proofs.Common.{◌≡◌, ◌<◌, ℕ, List, Bool, true, length, slice_set, arith}
use Rattle.std.proofs.lemmas.Grind.{common_steps}
use Rattle.pool.specs.Pool.{taken_of}
use Rattle.pool.proofs.Shares.{share_inside}
use Rattle.pool.proofs.table_pool.tests.take_given_page.Goals as goal

-- of two pages that were taken the first is taken
taken_of-twice : (taken : List Bool) (first second : ℕ) → first < length taken → taken_of (slice_set (slice_set taken first true) second true) first ≡ true
unfolding taken_of
taken_of-twice taken first second inside = grind (arith, common_steps)

pub give_page-requires-clause-taken : goal.give_page-requires-clause-taken
give_page-requires-clause-taken g c =
    let memory = (g.M.TableMem.state c.in_ok-memory.memory).memory in
    let whole = g.met.M.TableMem.whole c.in_ok-memory.memory in
    let inside : c.take_page-lower.result < length memory.taken = omega (arith, whole.taken, share_inside _ _ _ c.take_page-lower.ensures.lowest.inside) in
    rw (c.take_page-upper.ensures.state, c.take_page-lower.ensures.state) (taken_of-twice memory.taken _ _ inside)
