-- How many of the first numbers pass a test.
use Rattle.pool.proofs.Names.{nat_tests, common_steps, count_below, cases_eq, ◌≡◌, ◌≢◌, ℕ, zero, suc, ◌+◌, ◌<◌, ◌≤◌, arith, Bool, true, false, cond, refl, inl, inr, add-one}

-- tests that agree have the same count
pub count_below-same : (passes others : ℕ → Bool) (n : ℕ) → ((k : ℕ) → k < n → others k ≡ passes k) → count_below others n ≡ count_below passes n
unfolding count_below
count_below-same passes others zero same = refl
count_below-same passes others (suc n) same = grind (arith, common_steps, nat_tests, same n, count_below-same passes others n (λ k below. same k (omega arith)))

-- a test that has another answer at one number
pub count_below-at : (passes others : ℕ → Bool) (n x : ℕ) → x < n → ((k : ℕ) → k < n → k ≢ x → others k ≡ passes k) → count_below others n + cond (passes x) 1 0 ≡ count_below passes n + cond (others x) 1 0
unfolding count_below
count_below-at passes others zero x inside same = absurd (omega arith)
count_below-at passes others (suc n) x inside same = elim (cases_eq n x) [
  | inl is ↦ grind (arith, nat_tests, is, count_below-same passes others n (λ k below. same k (omega arith) (λ equal. omega (arith, is, equal))))
  | inr differs ↦ grind (arith, nat_tests, same n (omega arith) differs, count_below-at passes others n x (omega arith) (λ k below other. same k (omega arith) other))
]

-- one number passes that did not
pub count_below-one : (passes others : ℕ → Bool) (n x : ℕ) → x < n → passes x ≡ false → others x ≡ true → ((k : ℕ) → k < n → k ≢ x → others k ≡ passes k) → count_below others n ≡ count_below passes n + 1
count_below-one passes others n x inside old new same = grind (arith, common_steps, count_below-at passes others n x inside same)

-- none passes
pub count_below-none : (passes : ℕ → Bool) (n : ℕ) → ((k : ℕ) → k < n → passes k ≡ false) → count_below passes n ≡ 0
unfolding count_below
count_below-none passes zero none = refl
count_below-none passes (suc n) none = grind (arith, common_steps, nat_tests, count_below-none passes n (λ k below. none k (omega arith)))

-- a number that passes is counted
pub count_below-some : (passes : ℕ → Bool) (n k : ℕ) → k < n → passes k ≡ true → 0 < count_below passes n
unfolding count_below
count_below-some passes zero k below is_one = absurd (omega arith)
count_below-some passes (suc n) k below is_one = grind (arith, common_steps, nat_tests, count_below-some passes n k)

-- all pass
pub count_below-all : (passes : ℕ → Bool) (n : ℕ) → ((k : ℕ) → k < n → passes k ≡ true) → count_below passes n ≡ n
unfolding count_below
count_below-all passes zero all = refl
count_below-all passes (suc n) all = grind (arith, common_steps, nat_tests, count_below-all passes n (λ k below. all k (omega arith)))

-- from a number on none passes
pub count_below-tail : (passes : ℕ → Bool) (n m : ℕ) → n ≤ m → ((k : ℕ) → n ≤ k → k < m → passes k ≡ false) → count_below passes m ≡ count_below passes n
unfolding count_below
count_below-tail passes n zero within none = grind (arith, common_steps, nat_tests)
count_below-tail passes n (suc m) within none = elim (cases_eq n (suc m)) [
  | inl is ↦ rw is refl
  | inr is_other ↦ grind (arith, common_steps, none m, count_below-tail passes n m (omega arith) (λ k from below. none k from (omega arith)))
]

-- one number more
pub count_below-more : (passes : ℕ → Bool) (n : ℕ) → count_below passes (n + 1) ≡ cond (passes n) 1 0 + count_below passes n
unfolding count_below
count_below-more passes n = rw add-one refl

-- no more pass than there are
pub count_below-le : (passes : ℕ → Bool) (n : ℕ) → count_below passes n ≤ n
unfolding count_below
count_below-le passes zero = omega arith
count_below-le passes (suc n) = grind (arith, common_steps, nat_tests, count_below-le passes n)

-- one of the counted numbers
pub count_below-witness : (a : ℕ → Bool) (n : ℕ) → 0 < count_below a n → (x : ℕ) × (x < n) × (a x ≡ true)
unfolding count_below
count_below-witness a zero some = absurd (omega (arith, some))
count_below-witness a (suc n) some = grind (arith, common_steps, nat_tests, count_below-witness a n)
