-- Maximal runs of pages that have one value.
use Rattle.std.specs.Prelude.{◌≡◌, ℕ, zero, suc, ◌+◌, ◌<◌, ◌≤◌, Bool, false, ◌&&◌, ◌==◌, max, List, [], ◌∷◌, Option, None, if◌then◌else◌}
use Rattle.std.specs.List.{find}
use Rattle.std.specs.Option.{option_map, option_map_or}
use Rattle.base.specs.Pages.{PageRun, in_run}

-- pages in a row, and the value of each of them
pub record ValuedRun (A : Type 0) : Type 0 where
  pub run : PageRun
  pub value : A

-- so many pages from one on, with a value
abbrev pub valued : {A : Type 0} → ℕ → ℕ → A → ValuedRun A
valued first count value = record { run = record { first = first; count = count }; value = value }

-- the next pages begin where these end, and have the same value
abbrev pub is_followed_by : {A : Type 0} → (A → A → Bool) → ValuedRun A → ValuedRun A → Bool
is_followed_by same run next =
    (run.run.first + run.run.count == next.run.first) && same run.value next.value

-- the pages of both as one run
abbrev pub joined : {A : Type 0} → ValuedRun A → ValuedRun A → ValuedRun A
joined run next = valued run.run.first (run.run.count + next.run.count) run.value

-- these runs and the next pages, which join the last run where they follow it with the same value
unfoldable pub with_next : {A : Type 0} → (A → A → Bool) → List (ValuedRun A) → ValuedRun A
    → List (ValuedRun A)
with_next same [] next = next ∷ []
with_next same (run ∷ []) next =
    if is_followed_by same run next then joined run next ∷ [] else run ∷ next ∷ []
with_next same (run ∷ other ∷ runs) next = run ∷ with_next same (other ∷ runs) next

-- the maximal runs of one value among the first pages, upward; a page that has no value is in none
unfoldable pub maximal_runs : {A : Type 0} → (A → A → Bool) → (ℕ → Option A) → ℕ
    → List (ValuedRun A)
maximal_runs same value zero = []
maximal_runs same value (suc n) =
    option_map_or (λ a. with_next same (maximal_runs same value n) (valued n 1 a)) (value n)
    (maximal_runs same value n)

-- the value of a page
abbrev pub valued_at : {A : Type 0} → List (ValuedRun A) → ℕ → Option A
valued_at runs n = option_map (λ r. r.value) (find (λ r. in_run r.run n) runs)

-- each run has some pages, and the next begins behind it, or where it ends with another value
unfoldable pub AreUpward : {A : Type 0} → (A → A → Bool) → List (ValuedRun A) → Type 0
AreUpward same [] = Unit {0}
AreUpward same (run ∷ []) = 0 < run.run.count
AreUpward same (run ∷ next ∷ runs) =
    (0 < run.run.count) × (run.run.first + run.run.count ≤ next.run.first)
    × (is_followed_by same run next ≡ false) × AreUpward same (next ∷ runs)

-- these runs are upward, and give each of the first pages its value: a page that has none, and one behind them, is in no run
pub record AreMaximal {A : Type 0} (same : A → A → Bool) (value : ℕ → Option A) (count : ℕ) (runs : List (ValuedRun A)) : Type 0 where
  pub upward : AreUpward same runs
  pub values : (n : ℕ) → n < count → valued_at runs n ≡ value n
  pub beyond : (n : ℕ) → count ≤ n → valued_at runs n ≡ None

-- the number behind that of the last page of all these runs
abbrev pub end_of_all : List PageRun → ℕ
end_of_all [] = 0
end_of_all (run ∷ runs) = max (run.first + run.count) (end_of_all runs)
