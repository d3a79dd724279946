-- The words for the pages of runs in a table, written at once.
use Rattle.std.proofs.Common.{◌≡◌, ℕ, ◌+◌, ◌-◌, ◌*◌, ◌<◌, ◌≤◌, leb, true, false, List, [], ◌∷◌, Option, Some, None, refl, subst, arith}
use Rattle.stage2.proofs.Names.{nat_tests, View, page_count, PageRun, in_run, rise, Pool, IsWhole, pages_of, index_from, planned, below, Writes, IsWordFor, WritesPlan, some_pages, Filled, common_steps, and_parts}
use Rattle.pool.specs.Pool.{after_run, after_runs}
use Rattle.pool.proofs.Stretches.{length-words_set}
use Rattle.pool.proofs.Gaps.{before-rise}
use Rattle.pool.proofs.RunWords.{after_runs-none, after_runs-next}
use Rattle.stage2.proofs.Editing.Level3Words.{writes-none, writes-pass, writes-all}
use Rattle.stage2.proofs.Editing.PlannedWords.{writes-join, filled-join}
use Rattle.stage2.proofs.Editing.Stretches.{writes-stretch}
use Rattle.stage2.proofs.Walkers.Histories.{filled-none, filled-wider}

-- ---- where a run lies in a chunk

module _ (c x : ℕ) (run : PageRun) (small : x < 512) where
  run-before : x < index_from (512 * c) run.first → 512 * c + x < run.first
  run-before lt = omega arith

  run-behind : index_from (512 * c) (run.first + run.count) ≤ x → in_run run (512 * c + x) ≡ false
  run-behind from = let past : run.first + run.count ≤ 512 * c + x = omega arith in grind (arith, nat_tests, past)

-- what is planned for pages of runs alone
abbrev plan_of : List PageRun → View → ℕ → Option View
plan_of runs answer = planned runs answer None

module _ (k c word step : ℕ) (answer : View) (is : (x : ℕ) → x < 512 → IsWordFor (512 * c + x) answer (word + step * x)) where
  -- so much of a plan is left, which is that of these runs
  abbrev IsLeft : (ℕ → Option View) → List PageRun → ℕ → Type 0
  IsLeft plan runs i = (x : ℕ) → i ≤ x → x < 512 → plan (512 * c + x) ≡ plan_of runs answer (512 * c + x)

  -- the words before an index are written, and recorded
  abbrev AreWritten : (ℕ → Option View) → ℕ → Pool → Pool → Type 0
  AreWritten plan i a s = (Writes k c (below (512 * c + i) plan) (pages_of a.memory) (pages_of s.memory)) × (Filled k c i plan a s)

  -- ---- one run more

  module _ (plan : ℕ → Option View) (run : PageRun) (rest : List PageRun) (i : ℕ) (a s : Pool) (whole : IsWhole s.memory) (inside : k < page_count s.memory.quotas)
      (from : i ≤ index_from (512 * c) run.first) (rises : rise (run.first + run.count) rest ≡ true) (left : IsLeft plan (run ∷ rest) i) (so : AreWritten plan i a s) where
    abbrev first : ℕ
    first = index_from (512 * c) run.first

    abbrev end : ℕ
    end = index_from (512 * c) (run.first + run.count)

    ordered : first ≤ end
    ordered = omega arith

    most : end ≤ 512
    most = omega arith

    none-before : (x : ℕ) → i ≤ x → x < first → plan (512 * c + x) ≡ None
    none-before x least lt = grind (arith, common_steps, nat_tests, run-before, before-rise)

    some-there : (x : ℕ) → first ≤ x → x < end → plan (512 * c + x) ≡ Some answer
    some-there x least lt = grind (arith, common_steps, nat_tests)

    pub left-more : IsLeft plan rest end
    left-more x least small = grind (arith, common_steps, nat_tests, run-behind, ordered)

    words : (x : ℕ) → x < end - first → IsWordFor (512 * c + (first + x)) answer ((word + step * first) + step * x)
    words x lt = grind (arith, common_steps, nat_tests, most)

    pub written-more : AreWritten plan end a (after_run k (512 * c) word step run s)
    written-more =
        let e = after_run k (512 * c) word step run s in
        let written : WritesPlan k c end (some_pages c first end answer) s e = writes-stretch k c first end (word + step * first) step answer s whole inside ordered most words in (
          writes-join k c first end plan answer (pages_of a.memory) (pages_of s.memory) (pages_of e.memory) ordered some-there
              (writes-pass k c i first plan (pages_of a.memory) (pages_of s.memory) from none-before so.0)
              written.words,
          filled-join k c first end plan answer a s e ordered some-there
              (filled-wider k c i first plan a s from so.1)
              written.made,
        )

    pub whole-more : IsWhole (after_run k (512 * c) word step run s).memory
    whole-more = grind (arith, common_steps, nat_tests, words, length-words_set)

  -- ---- all that are left

  none-left : (plan : ℕ → Option View) (i : ℕ) (a s : Pool) → i ≤ 512 → IsLeft plan [] i → AreWritten plan i a s → WritesPlan k c 512 plan a s
  none-left plan i a s most left so =
      record {
        words = writes-all k c i plan (pages_of a.memory) (pages_of s.memory) (λ x small from. left x from small) so.0;
        made = filled-wider k c i 512 plan a s most so.1;
      }

  rest-written : (plan : ℕ → Option View) (rest : List PageRun) (end : ℕ) (a s : Pool) → IsWhole s.memory → k < page_count s.memory.quotas → rise end rest ≡ true
      → IsLeft plan rest (index_from (512 * c) end) → AreWritten plan (index_from (512 * c) end) a s → WritesPlan k c 512 plan a (after_runs k (512 * c) word step rest s)
  rest-written plan [] end a s whole inside rises left so =
      rw (after_runs-none k (512 * c) word step s) (none-left plan (index_from (512 * c) end) a s (omega arith) left so)
  rest-written plan (run ∷ rest) end a s whole inside rises left so =
      let both = and_parts (leb end run.first) (rise (run.first + run.count) rest) rises in
      let above : end ≤ run.first = grind (arith, nat_tests, both.0) in
      let from : index_from (512 * c) end ≤ index_from (512 * c) run.first = omega (arith, above) in
      rw (after_runs-next k (512 * c) word step run rest s)
      (rest-written plan rest (run.first + run.count) a (after_run k (512 * c) word step run s)
      (whole-more plan run rest (index_from (512 * c) end) a s whole inside from both.1 left so) inside both.1
      (left-more plan run rest (index_from (512 * c) end) a s whole inside from both.1 left so)
      (written-more plan run rest (index_from (512 * c) end) a s whole inside from both.1 left so))

  start-written : (plan : ℕ → Option View) (s : Pool) → AreWritten plan 0 s s
  start-written plan s = (writes-none k c 0 plan (pages_of s.memory) (λ x lt. absurd (omega (arith, lt))), filled-none k c 0 plan s)

  pub runs-written : (runs : List PageRun) (s : Pool) → IsWhole s.memory → k < page_count s.memory.quotas → rise 0 runs ≡ true
      → WritesPlan k c 512 (planned runs answer None) s (after_runs k (512 * c) word step runs s)
  runs-written runs s whole inside rises =
      let plan = plan_of runs answer in
      let none : 0 ≡ index_from (512 * c) 0 = omega arith in
      rest-written plan runs 0 s s whole inside rises (λ x from small. refl) (subst (λ i. AreWritten plan i s s) none (start-written plan s))
