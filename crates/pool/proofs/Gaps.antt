-- The pages beside runs, as runs.
use Rattle.pool.proofs.Names.{common_steps, nat_tests, PageRun, covers, rise, Pool, after_sets, index_from, words_in, after_runs, gap, gaps_from, gaps_of, at_drop_more}
use Rattle.std.proofs.Common.{◌≡◌, ℕ, ◌+◌, ◌-◌, ◌<◌, ◌≤◌, ◌||◌, true, false, max, ◌*◌, List, [], ◌∷◌, ◌++◌, length, drop, get_or, refl, arith}
use Rattle.base.specs.Pages.{rise_above, are_normal}
use Rattle.pool.proofs.RunWords.{after_runs-none, after_runs-next, words_in-append, sets-none}

-- ---- one gap

pub gaps-none : (start first : ℕ) → gaps_from start first [] ≡ gap start first 512
unfolding gaps_from
gaps-none start first = refl

pub gaps-next : (start first : ℕ) (run : PageRun) (runs : List PageRun)
    → gaps_from start first (run ∷ runs) ≡ gap start first (index_from start run.first) ++ gaps_from start (max first (index_from start (run.first + run.count))) runs
unfolding gaps_from
gaps-next start first run runs = refl

-- its words are those from its first index up to its end
pub gap-words : (start first end : ℕ) → end ≤ 512 → words_in start (gap start first end) ≡ end - first
gap-words start first end most = grind (arith, common_steps, nat_tests)

pub gap-one : (page start word step first end : ℕ) (pool : Pool) → end ≤ 512
    → after_runs page start word step (gap start first end) pool ≡ after_sets page first (end - first) (word + step * first) step pool
gap-one page start word step first end pool most = grind (arith, common_steps, nat_tests, after_runs-next, after_runs-none, sets-none)

-- ---- gaps that are left

pub gaps-left : (start first end next i : ℕ) (runs : List PageRun) (run : PageRun) → i < length runs → run ≡ get_or runs i run → end ≡ index_from start run.first → next ≡ max first (index_from start (run.first + run.count))
    → gaps_from start first (drop i runs) ≡ gap start first end ++ gaps_from start next (drop (i + 1) runs)
gaps-left start first end next i runs run lt is at after = grind (arith, common_steps, nat_tests, at_drop_more (gaps_from start first) runs i run lt, gaps-next)

-- ---- runs that stand upward

pub above : (run : PageRun) (runs : List PageRun) (e : ℕ) → rise e (run ∷ runs) ≡ true → (e ≤ run.first) × (rise (run.first + run.count) runs ≡ true)
above run runs e up = grind (arith, common_steps, nat_tests)

pub rise-lower : (runs : List PageRun) (a b : ℕ) → b ≤ a → rise a runs ≡ true → rise b runs ≡ true
rise-lower [] a b le up = refl
rise-lower (run ∷ runs) a b le up = grind (arith, common_steps, nat_tests)

pub before-rise : (runs : List PageRun) (e n : ℕ) → rise e runs ≡ true → n < e → covers runs n ≡ false
before-rise [] e n up lt = refl
before-rise (run ∷ runs) e n up lt = grind (arith, common_steps, nat_tests, above run runs e up, before-rise runs (run.first + run.count) n)

-- maximal runs do
rise-strict : (e : ℕ) (runs : List PageRun) → rise_above e runs ≡ true → rise e runs ≡ true
rise-strict e [] up = refl
rise-strict e (run ∷ runs) up = grind (arith, common_steps, nat_tests, rise-strict (run.first + run.count) runs)

pub rise-normal : (runs : List PageRun) → are_normal runs ≡ true → rise 0 runs ≡ true
rise-normal [] normal = refl
rise-normal (run ∷ runs) normal = grind (arith, nat_tests, rise-strict)

pub covers-append : (a b : List PageRun) (n : ℕ) → covers (a ++ b) n ≡ (covers a n || covers b n)
covers-append a b n = grind (arith, common_steps, nat_tests)

module _ (start : ℕ) where
  -- gaps stand upward
  rise-gaps : (runs : List PageRun) (first : ℕ) → rise (start + first) (gaps_from start first runs) ≡ true
  rise-gaps [] first = grind (arith, common_steps, nat_tests, gaps-none)
  rise-gaps (run ∷ runs) first = grind (arith, nat_tests, common_steps, gaps-next, rise-lower, rise-lower, rise-gaps runs (max first (index_from start (run.first + run.count))))

  pub gaps-rise : (runs : List PageRun) → rise 0 (gaps_of start runs) ≡ true
  gaps-rise runs = rise-lower (gaps_of start runs) (start + 0) 0 (omega arith) (rise-gaps runs 0)

  -- ---- how many words they have

  words-from : (runs : List PageRun) (e first : ℕ) → first ≡ index_from start e → rise e runs ≡ true → words_in start (gaps_from start first runs) + words_in start runs + first ≡ 512
  words-from [] e first at up = rw gaps-none (let words = gap-words start first 512 (omega arith) in omega (arith, words, at))
  words-from (run ∷ runs) e first at up = grind (arith, nat_tests, above run runs e up, gaps-next, gap-words, words_in-append, words-from runs (run.first + run.count) (max first (index_from start (run.first + run.count))))

  pub gaps-words : (runs : List PageRun) → rise 0 runs ≡ true → words_in start (gaps_of start runs) + words_in start runs ≡ 512
  gaps-words runs up = let all = words-from runs 0 0 (omega arith) up in omega (arith, all)

  -- ---- which pages they have

  pub gap-at : (first end n : ℕ) → covers (gap start first end) n ≡ true → (start + first ≤ n) × (n < start + end)
  gap-at first end n there = grind (arith, common_steps, nat_tests)

  pub gap-has : (first end x : ℕ) → first ≤ x → x < end → covers (gap start first end) (start + x) ≡ true
  gap-has first end x from lt = grind (arith, common_steps, nat_tests)

  -- none behind the 512
  gaps-below : (runs : List PageRun) (first n : ℕ) → covers (gaps_from start first runs) n ≡ true → n < start + 512
  gaps-below [] first n there = (gap-at first 512 n (rw gaps-none at there)).1
  gaps-below (run ∷ runs) first n there = grind (arith, nat_tests, gaps-next, covers-append, gap-at, gaps-below runs (max first (index_from start (run.first + run.count))) n)

  -- nor before the first
  pub gaps-behind : (runs : List PageRun) (first n : ℕ) → covers (gaps_from start first runs) n ≡ true → start + first ≤ n
  gaps-behind runs first n there = grind (arith, nat_tests, before-rise (gaps_from start first runs) (start + first) n (rise-gaps runs first))

  out-from : (runs : List PageRun) (e first n : ℕ) → first ≡ index_from start e → rise e runs ≡ true → covers (gaps_from start first runs) n ≡ true → covers runs n ≡ false
  out-from [] e first n at up there = refl
  out-from (run ∷ runs) e first n at up there = grind (arith, common_steps, nat_tests, above run runs e up, gaps-next, covers-append, gap-at, before-rise runs (run.first + run.count) n, gaps-behind runs (max first (index_from start (run.first + run.count))) n, gaps-below runs (max first (index_from start (run.first + run.count))) n, out-from runs (run.first + run.count) (max first (index_from start (run.first + run.count))) n)

  in-from : (runs : List PageRun) (e first x : ℕ) → first ≡ index_from start e → rise e runs ≡ true → first ≤ x → x < 512 → covers runs (start + x) ≡ false → covers (gaps_from start first runs) (start + x) ≡ true
  in-from [] e first x at up from small out = rw gaps-none (gap-has first 512 x from small)
  in-from (run ∷ runs) e first x at up from small out = grind (arith, common_steps, nat_tests, above run runs e up, gaps-next, covers-append, gap-has, in-from runs (run.first + run.count) (max first (index_from start (run.first + run.count))) x)

  -- a page of a gap is in none of the runs, and among the 512
  pub gaps-out : (runs : List PageRun) (n : ℕ) → rise 0 runs ≡ true → covers (gaps_of start runs) n ≡ true → covers runs n ≡ false
  gaps-out runs n up there = out-from runs 0 0 n (omega arith) up there

  -- and each that is so is in one
  pub gaps-in : (runs : List PageRun) (x : ℕ) → rise 0 runs ≡ true → x < 512 → covers runs (start + x) ≡ false → covers (gaps_of start runs) (start + x) ≡ true
  gaps-in runs x up small out = in-from runs 0 0 x (omega arith) up (omega arith) small out
