-- The words for the pages of runs, and what else is kept.
use Rattle.pool.proofs.Names.{nat_tests, common_steps, PageRun, Pool, words_set, sets_of, after_sets, index_from, words_in, after_run, after_runs, length-append, at_drop_more}
use Rattle.std.proofs.Common.{◌≡◌, ℕ, ◌+◌, ◌-◌, ◌*◌, ◌^◌, ◌<◌, ◌≤◌, arith, List, [], ◌∷◌, ◌++◌, length, get_or, drop, refl}
use Rattle.pool.proofs.Stretches.{length-words_set, words_set-other, counted-length}
use Rattle.pool.proofs.Replaced.{Keeps, keeps-self, keeps-more}

-- ---- none, and one run more

pub after_runs-none : (page start word step : ℕ) (pool : Pool) → after_runs page start word step [] pool ≡ pool
unfolding after_runs
after_runs-none page start word step pool = refl

pub after_runs-next : (page start word step : ℕ) (run : PageRun) (runs : List PageRun) (pool : Pool)
    → after_runs page start word step (run ∷ runs) pool ≡ after_runs page start word step runs (after_run page start word step run pool)
unfolding after_runs
after_runs-next page start word step run runs pool = refl

pub sets-none : (page first word step : ℕ) (pool : Pool) → after_sets page first 0 word step pool ≡ pool
unfolding words_set sets_of
sets-none page first word step pool = refl

-- ---- what is kept

pub run-within : (start : ℕ) (run : PageRun) → index_from start run.first + (index_from start (run.first + run.count) - index_from start run.first) ≤ 512
run-within start run = omega arith

pub keeps-sets : (page first n word step : ℕ) (a : Pool) → first + n ≤ 512 → 512 * page + 512 ≤ length a.memory.words → Keeps page a (after_sets page first n word step a)
keeps-sets page first n word step a small room = grind (arith, common_steps, nat_tests, length-words_set, words_set-other, length-append, counted-length)

pub keeps-runs : (page start word step : ℕ) (runs : List PageRun) (a : Pool) → 512 * page + 512 ≤ length a.memory.words → Keeps page a (after_runs page start word step runs a)
unfolding after_runs
keeps-runs page start word step [] a room = keeps-self page a
keeps-runs page start word step (run ∷ runs) a room = grind (arith, nat_tests, keeps-more, keeps-sets, run-within start run, keeps-runs page start word step runs (after_run page start word step run a))

-- ---- which words they are

-- the words from one index up to another
pub words-in_range : (word step first end : ℕ) → word + step * 512 < 2 ^ 64 → first ≤ 512 → end ≤ 512 → word + step * first + step * (end - first) < 2 ^ 64
words-in_range word step first end fits low high = grind (arith, common_steps, nat_tests)

-- ---- the runs that are left

pub words_in-left : (start i : ℕ) (runs : List PageRun) (run : PageRun) → i < length runs → run ≡ get_or runs i run
    → words_in start (drop i runs) ≡ (index_from start (run.first + run.count) - index_from start run.first) + words_in start (drop (i + 1) runs)
words_in-left start i runs run lt is = grind (arith, common_steps, at_drop_more (words_in start) runs i run lt)

-- runs of which there is one
pub runs-single : (runs : List PageRun) (run : PageRun) → length runs ≡ 1 → run ≡ get_or runs 0 run → runs ≡ run ∷ []
runs-single runs run one is = grind (arith, common_steps, nat_tests)

-- some runs, and others behind them
pub after_runs-append : (page start word step : ℕ) (a b : List PageRun) (pool : Pool) → after_runs page start word step (a ++ b) pool ≡ after_runs page start word step b (after_runs page start word step a pool)
unfolding after_runs
after_runs-append page start word step [] b pool = refl
after_runs-append page start word step (run ∷ a) b pool = grind (arith, common_steps, after_runs-append page start word step a b (after_run page start word step run pool))

pub words_in-append : (start : ℕ) (a b : List PageRun) → words_in start (a ++ b) ≡ words_in start a + words_in start b
words_in-append start [] b = omega arith
words_in-append start (run ∷ a) b = grind (arith, common_steps, words_in-append start a b)
