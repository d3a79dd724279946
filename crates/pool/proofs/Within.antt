-- Where the operations of a list lie that calls make.
use Rattle.pool.proofs.Names.{common_steps, list_all, nat_tests, row_of, page_count, PageRun, Pool, lies_in, sets_of, after_run, after_runs, after_replaces, Op}
use Rattle.std.proofs.Common.{◌≡◌, ℕ, zero, suc, ◌+◌, ◌*◌, ◌^◌, ◌<◌, ◌≤◌, true, List, [], ◌∷◌, ◌++◌, length, refl, arith}
use Rattle.pool.proofs.RunWords.{run-within}

-- writes of words that follow one another
pub within-sets : (ids quotas words : List ℕ) (page first n word step : ℕ) → page < page_count quotas → first + n ≤ 512 → list_all (lies_in ids quotas) (sets_of words page first n word step) ≡ true
unfolding sets_of
within-sets ids quotas words page first zero word step inside small = refl
within-sets ids quotas words page first (suc n) word step inside small = grind (arith, common_steps, nat_tests, within-sets ids quotas words page first n word step inside (omega (arith, small)))

pub within-behind : (ids quotas : List ℕ) (words : List ℕ) (page first n word step : ℕ) (old : List Op) → page < page_count quotas → first + n ≤ 512 → list_all (lies_in ids quotas) old ≡ true
    → list_all (lies_in ids quotas) (sets_of words page first n word step ++ old) ≡ true
within-behind ids quotas words page first n word step old inside small all = grind (arith, common_steps, within-sets ids quotas words page first n word step inside small)

-- of the words for runs
pub within-runs : (ids quotas : List ℕ) (page start word step : ℕ) (runs : List PageRun) (pool : Pool) → page < page_count quotas → list_all (lies_in ids quotas) pool.operations ≡ true
    → list_all (lies_in ids quotas) (after_runs page start word step runs pool).operations ≡ true
unfolding after_runs
within-runs ids quotas page start word step [] pool inside all = all
within-runs ids quotas page start word step (run ∷ runs) pool inside all =
    within-runs ids quotas page start word step runs (after_run page start word step run pool) inside (within-behind ids quotas pool.memory.words page _ _ _ step pool.operations inside (run-within start run) all)

-- and of words that are replaced
pub within-replaces : (ids quotas : List ℕ) (p page first n word step start : ℕ) (pool : Pool) → page < page_count quotas → first + n ≤ 512 → row_of ids p < length ids → start + 512 * n ≤ 2 ^ 27 → list_all (lies_in ids quotas) pool.operations ≡ true
    → list_all (lies_in ids quotas) (after_replaces p page first n word step start pool).operations ≡ true
unfolding after_replaces
within-replaces ids quotas p page first zero word step start pool inside small row below all = all
within-replaces ids quotas p page first (suc n) word step start pool inside small row below all = grind (arith, common_steps, nat_tests, within-replaces ids quotas p page first n word step start pool inside (omega (arith, small)) row (omega (arith, below)) all)
