-- The pages beside runs, run by run.
use Rattle.std.proofs.Common.{arith, ◌≡◌, ℕ, ◌+◌, ◌*◌, ◌<◌, true, cond, List, Some, None, sym, ap, ◌∙◌, inl, inr}
use Rattle.stage2.proofs.Names.{nat_tests, common_steps, View, PageRun, covers, rise, Pages, Pool, pages_of, gaps_of, entry_of, entry_for, planned, Writes, gaps, WritesPlan, cases_Bool}
use Rattle.stage2.proofs.Editing.Level3Words.{writes-as}
use Rattle.pool.proofs.Gaps.{gaps-out, gaps-in}
use Rattle.words.proofs.RoundTrip.{entry-zero}
use Rattle.stage2.proofs.Walkers.Histories.{filled-more}

-- in a table that is all 0, the words beside runs of which no page is to be reached
pub writes-gaps : (k c : ℕ) (runs : List PageRun) (other : View) (a b : Pages) → ((i : ℕ) → i < 512 → covers runs (512 * c + i) ≡ true → a.words k i ≡ 0) → Writes k c (gaps runs other) a b → Writes k c (planned runs None (Some other)) a b
writes-gaps k c runs other a b empty so =
    writes-as (planned runs None (Some other)) so (λ i x small given. elim (cases_Bool (covers runs (512 * c + i))) [
      | inl in_it ↦
          let none : None ≡ x = (let e = sym (ap (λ t. cond t (Some None) (Some other)) in_it) ∙ given in cc) in
          let word : b.words k i ≡ 0 = so.stays i small (ap (λ t. cond t None (Some other)) in_it) ∙ empty i small in_it in
          record { entry = ap (entry_of 3) word ∙ entry-zero 3 ∙ ap (entry_for (512 * c + i)) none; zero = λ _. word }
      | inr out ↦ so.here i x small (ap (λ t. cond t None (Some other)) out ∙ sym (ap (λ t. cond t (Some None) (Some other)) out) ∙ given)
    ])
    (λ i small none. absurd (grind (arith, common_steps, nat_tests)))

-- ---- gaps as runs

module _ (k c : ℕ) (runs : List PageRun) (answer : View) where
  out-or-in : (x : ℕ) → rise 0 runs ≡ true → x < 512 → planned (gaps_of (512 * c) runs) answer None (512 * c + x) ≡ gaps runs answer (512 * c + x)
  out-or-in x up small = grind (arith, common_steps, nat_tests, gaps-out, gaps-in)

  -- the words that are planned for them are those planned beside the runs
  words-gap-runs : (a b : Pages) → rise 0 runs ≡ true → Writes k c (planned (gaps_of (512 * c) runs) answer None) a b → Writes k c (gaps runs answer) a b
  words-gap-runs a b up so = writes-as (gaps runs answer) so (λ i x small given. so.here i x small (out-or-in i up small ∙ given)) (λ i small none. so.stays i small (out-or-in i up small ∙ none))

  pub writes-gap-runs : (a b : Pool) → rise 0 runs ≡ true → WritesPlan k c 512 (planned (gaps_of (512 * c) runs) answer None) a b → WritesPlan k c 512 (gaps runs answer) a b
  writes-gap-runs a b up so = record {
    words = words-gap-runs (pages_of a.memory) (pages_of b.memory) up so.words;
    made = (grind (arith, common_steps, nat_tests, filled-more, gaps-out));
  }
