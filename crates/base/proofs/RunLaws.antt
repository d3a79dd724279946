-- Runs that are made page by page are maximal.
use Rattle.std.proofs.Common.{◌≡◌, ℕ, zero, suc, ◌+◌, ◌≤◌, Bool, true, false, cond, ltb, List, [], ◌∷◌, Option, Some, None, refl, sym, ap, ◌∙◌, arith}
use Rattle.std.specs.Option.{option_map_or}
use Rattle.std.proofs.lemmas.Bool.Decides.{nat_tests}
use Rattle.base.specs.Runs.{ValuedRun, valued, is_followed_by, joined, with_next, maximal_runs, valued_at, AreUpward, AreMaximal}
use Rattle.base.proofs.MaximalRuns.{IsSound, at-each, runs-same}

-- the last run ends at the page or before it
EndsBy : {A : Type 0} → ℕ → List (ValuedRun A) → Type 0
EndsBy n [] = Unit {0}
EndsBy n (run ∷ []) = run.run.first + run.run.count ≤ n
EndsBy n (run ∷ next ∷ runs) = EndsBy n (next ∷ runs)

ends-later : {A : Type 0} (n m : ℕ) (runs : List (ValuedRun A)) → n ≤ m → EndsBy n runs → EndsBy m runs
unfolding EndsBy
ends-later n m [] le ends = tt
ends-later n m (run ∷ []) le ends = omega (arith, le, ends)
ends-later n m (run ∷ next ∷ runs) le ends = ends-later n m (next ∷ runs) le ends

module _ {A : Type 0} (same : A → A → Bool) (first : ℕ) (a : A) where
  next-ends : (runs : List (ValuedRun A)) → EndsBy first runs → EndsBy (suc first) (with_next same runs (valued first 1 a))
  unfolding EndsBy with_next
  next-ends [] ends = omega arith
  next-ends (run ∷ []) ends = elim (is_followed_by same run (valued first 1 a)) as (λ b. EndsBy (suc first) (cond b (joined run (valued first 1 a) ∷ []) (run ∷ valued first 1 a ∷ []))) [ true ↦ omega (arith, ends) | false ↦ omega arith ]
  next-ends (run ∷ next ∷ []) ends = elim (is_followed_by same next (valued first 1 a)) as (λ b. EndsBy (suc first) (run ∷ cond b (joined next (valued first 1 a) ∷ []) (next ∷ valued first 1 a ∷ []))) [ true ↦ omega (arith, ends) | false ↦ omega arith ]
  next-ends (run ∷ next ∷ more ∷ runs) ends = next-ends (next ∷ more ∷ runs) ends

  next-upward : (runs : List (ValuedRun A)) → EndsBy first runs → AreUpward same runs → AreUpward same (with_next same runs (valued first 1 a))
  unfolding EndsBy with_next AreUpward
  next-upward [] ends so = omega arith
  next-upward (run ∷ []) ends so =
      elim (is_followed_by same run (valued first 1 a)) as (λ b. is_followed_by same run (valued first 1 a) ≡ b → AreUpward same (cond b (joined run (valued first 1 a) ∷ []) (run ∷ valued first 1 a ∷ []))) [
        | true ↦ λ e. omega (arith, so)
        | false ↦ λ e. (so, ends, e, omega arith)
      ] refl
  next-upward (run ∷ next ∷ []) ends so =
      let rest = next-upward (next ∷ []) ends so.3 in
      elim (is_followed_by same next (valued first 1 a)) as (λ b. AreUpward same (cond b (joined next (valued first 1 a) ∷ []) (next ∷ valued first 1 a ∷ [])) → AreUpward same (run ∷ cond b (joined next (valued first 1 a) ∷ []) (next ∷ valued first 1 a ∷ []))) [
        | true ↦ λ t. (so.0, so.1, so.2, t)
        | false ↦ λ t. (so.0, so.1, so.2, t)
      ] rest
  next-upward (run ∷ next ∷ more ∷ runs) ends so = (so.0, so.1, so.2, next-upward (next ∷ more ∷ runs) ends so.3)

module _ {A : Type 0} (same : A → A → Bool) (f : ℕ → Option A) where
  step-ends : (n : ℕ) (o : Option A) → EndsBy n (maximal_runs same f n) → EndsBy (suc n) (option_map_or (λ a. with_next same (maximal_runs same f n) (valued n 1 a)) o (maximal_runs same f n))
  step-ends n None ends = ends-later n (suc n) (maximal_runs same f n) (omega arith) ends
  step-ends n (Some a) ends = next-ends same n a (maximal_runs same f n) ends

  ends : (n : ℕ) → EndsBy n (maximal_runs same f n)
  unfolding maximal_runs EndsBy
  ends zero = tt
  ends (suc n) = step-ends n (f n) (ends n)

  step-upward : (n : ℕ) (o : Option A) → AreUpward same (maximal_runs same f n) → AreUpward same (option_map_or (λ a. with_next same (maximal_runs same f n) (valued n 1 a)) o (maximal_runs same f n))
  step-upward n None so = so
  step-upward n (Some a) so = next-upward same n a (maximal_runs same f n) (ends n) so

  upward : (n : ℕ) → AreUpward same (maximal_runs same f n)
  unfolding maximal_runs AreUpward
  upward zero = tt
  upward (suc n) = step-upward n (f n) (upward n)

  -- the values of the first pages alone
  first-of : ℕ → ℕ → Option A
  first-of b n = cond (ltb n b) (f n) None

  first-same : (b : ℕ) → maximal_runs same f b ≡ maximal_runs same (first-of b) b
  unfolding first-of
  first-same b = runs-same same (first-of b) f b (λ i lt. let under : ltb i b ≡ true = grind (arith, nat_tests, lt) in ap (λ t. cond t (f i) None) (sym under))

  at-first : IsSound same → (b n : ℕ) → valued_at (maximal_runs same f b) n ≡ cond (ltb n b) (f n) None
  unfolding first-of
  at-first sound b n =
      ap (λ runs. valued_at runs n) (first-same b)
      ∙ at-each same sound (first-of b) b (λ i le. let past : ltb i b ≡ false = grind (arith, nat_tests, le) in ap (λ t. cond t (f i) None) past) n

  pub are_maximal : IsSound same → (b : ℕ) → AreMaximal same f b (maximal_runs same f b)
  are_maximal sound b = record {
    upward = upward b;
    values = λ n lt. let under : ltb n b ≡ true = grind (arith, nat_tests, lt) in at-first sound b n ∙ ap (λ t. cond t (f n) None) under;
    beyond = λ n le. let past : ltb n b ≡ false = grind (arith, nat_tests, le) in at-first sound b n ∙ ap (λ t. cond t (f n) None) past;
  }
