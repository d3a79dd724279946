-- The gigabytes and chunks before the first that the runs touch, and after the last, stay as they are.
use Rattle.stage2.proofs.Names.{nat_tests, common_steps, View, PageRun, covers, Pool, Pages, Layout, walked, edited, touches_chunk, sum_below, IsUnderway, IsPast, StaysInStep, answers, linked, disturbed_below, cases_eq}
use Rattle.std.proofs.Common.{◌≡◌, ℕ, zero, suc, ◌≢◌, ◌+◌, ◌-◌, ◌*◌, ◌/◌, ◌<◌, ◌≤◌, true, false, List, length, refl, ap, subst, ◌⊎◌, arith, inl, inr, add-one}
use Rattle.stage2.proofs.Walkers.GigabyteSteps.{disturbed_before}
use Rattle.stage2.proofs.Walkers.ChunkSteps.{march-skip}
use Rattle.stage2.proofs.Editing.GigabyteByGigabyte.{past-skip}
use Rattle.stage2.proofs.Editing.ChunkByChunk.{sum_below-more, sum_below-each, underway-skip, untouched}
use Rattle.stage2.proofs.Walkers.ZeroedTables.{stays-wider}
use Rattle.base.proofs.Booleans.{both}

-- ---- spans

-- a place between two bounds
abbrev pub Between : ℕ → ℕ → ℕ → Type 0
Between first end x = (first ≤ x) × (x < end)

-- a page of a gigabyte outside the span is not covered
pub outside-gigabytes : (runs : List PageRun) (first end n : ℕ) → ((y : ℕ) → covers runs y ≡ true → Between first end (y / 512 / 512)) → (n / 512 / 512 < first) ⊎ (end ≤ n / 512 / 512) → covers runs n ≡ false
outside-gigabytes runs first end n within out = grind (arith, common_steps, nat_tests)

-- what each of some steps keeps is kept by all of them
pub climbed : (P : ℕ → Type 0) (i k : ℕ) → i ≤ k → ((x : ℕ) → i ≤ x → x < k → P x → P (x + 1)) → P i → P k
climbed P i zero le step p = let e : i ≡ 0 = omega arith in subst P e p
climbed P i (suc k) le step p = elim (cases_eq i (suc k)) [
  | inl e ↦ subst P e p
  | inr other ↦ subst P (add-one k) (step k (omega (arith, le, other)) (omega arith) (climbed P i k (omega (arith, le, other)) (λ x from to. step x from (omega (arith, to))) p))
]

-- ---- chunks

module _ (layout : Layout) (row g j : ℕ) (runs : List PageRun) (access : View) (old mid : Pages) (inside : row < length layout.ids) (below : g < 512) where
  -- none of the chunks from the i-th up to the k-th is touched
  abbrev pub AreUntouched : ℕ → ℕ → Type 0
  AreUntouched i k = (x : ℕ) → i ≤ x → x < k → touches_chunk (512 * g + x) runs ≡ false

  abbrev pub UnderwayAt : ℕ → Type 0
  UnderwayAt i = IsUnderway layout row g j i (edited runs access (answers layout (linked layout row g j old).words row)) old mid

  abbrev pub StaysAt : Pool → Pool → ℕ → Type 0
  StaysAt a b i = StaysInStep layout row (disturbed_below g i runs (answers layout (linked layout row g j old).words row) (edited runs access (answers layout (linked layout row g j old).words row))) (λ n. walked n (edited runs access (answers layout (linked layout row g j old).words row) n)) a b

  underway-next : (i : ℕ) → i < 512 → touches_chunk (512 * g + i) runs ≡ false → UnderwayAt i → UnderwayAt (i + 1)
  underway-next i lt none u = underway-skip layout row g j runs access old inside below i lt mid u (λ n small at. untouched (512 * g + i) runs n none at)

  pub underway-gap : (i k : ℕ) → i ≤ k → k ≤ 512 → AreUntouched i k → UnderwayAt i → UnderwayAt k
  underway-gap i k le most none = climbed UnderwayAt i k le (λ x from to. underway-next x (omega (arith, most, to)) (none x from to))

  pub stays-gap : (a b : Pool) (i k : ℕ) → i ≤ k → k ≤ 512 → AreUntouched i k → UnderwayAt i → StaysAt a b i → StaysAt a b k
  stays-gap a b i k le most none u so = (climbed (λ x. UnderwayAt x × StaysAt a b x) i k le (λ x from to now. let lt : x < 512 = omega (arith, most, to) in
      (underway-next x lt (none x from to) now.0, march-skip layout row g j runs access old inside below x lt mid now.0 a b (none x from to) now.1)) (u, so)).1

-- ---- sums and counts

pub sum_below-none : (f : ℕ → ℕ) (n : ℕ) → ((k : ℕ) → k < n → f k ≡ 0) → sum_below f n ≡ 0
unfolding sum_below
sum_below-none f n none = let all : 0 + n ≡ n = omega arith in let start : sum_below f 0 ≡ 0 = refl in omega (arith, ap (sum_below f) all, start, sum_below-each f 0 n 0 (λ x _ lt. none x (omega (arith, lt))))

pub sum_below-tail : (f : ℕ → ℕ) (i k : ℕ) → i ≤ k → ((x : ℕ) → i ≤ x → x < k → f x ≡ 0) → sum_below f k ≡ sum_below f i
sum_below-tail f i k le none = let all : i + (k - i) ≡ k = omega (arith, le) in omega (arith, ap (sum_below f) all, sum_below-each f i (k - i) 0 (λ x from to. none x from (omega (arith, to, le))))

-- where one of them alone is not 0
pub sum_below-alone : (f : ℕ → ℕ) (n i : ℕ) → i < n → ((k : ℕ) → k < n → k ≢ i → f k ≡ 0) → sum_below f n ≡ f i
sum_below-alone f n i lt others = grind (arith, common_steps, nat_tests, sum_below-tail f (i + 1) n (omega (arith, lt)) (λ x from to. others x (omega (arith, to, lt)) (λ e. omega (arith, e, from))), sum_below-none, sum_below-more)

-- ---- gigabytes

module _ (layout : Layout) (row : ℕ) (runs : List PageRun) (access : View) (old mid : Pages) (inside : row < length layout.ids) where
  -- none of the gigabytes from the i-th up to the k-th has a page of the runs
  abbrev pub AreUncovered : ℕ → ℕ → Type 0
  AreUncovered i k = (n : ℕ) → i ≤ n / 512 / 512 → n / 512 / 512 < k → covers runs n ≡ false

  abbrev pub PastAt : ℕ → Type 0
  PastAt i = IsPast layout row i (edited runs access (answers layout old.words row)) old mid

  pub past-gap : (i k : ℕ) → i ≤ k → k ≤ 512 → AreUncovered i k → PastAt i → PastAt k
  past-gap i k le most none = climbed PastAt i k le (λ x from to p. past-skip layout row runs access old inside x (omega (arith, most, to)) mid p (λ n at. none n (omega (arith, at, from)) (omega (arith, at, to))))

pub cross-gap : (layout : Layout) (row : ℕ) (runs : List PageRun) (before after : ℕ → View) (a b : Pool) (i k : ℕ) → i ≤ k
    → StaysInStep layout row (disturbed_before i runs before after) (λ n. walked n (after n)) a b → StaysInStep layout row (disturbed_before k runs before after) (λ n. walked n (after n)) a b
cross-gap layout row runs before after a b i k le so = grind (arith, common_steps, nat_tests, disturbed_before, stays-wider, both)
