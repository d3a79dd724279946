-- Numbers that are apart.
use Rattle.std.proofs.Common.{◌≡◌, ◌≢◌, ◌⊎◌, ℕ, zero, suc, ◌+◌, ◌<◌, ◌≤◌, ◌==◌, Bool, true, false, List, [], ◌∷◌, ◌++◌, length, if◌then◌else◌, inl, inr, refl, sym, ap, ◌∙◌, subst, arith}
use Rattle.std.specs.Prelude.{Contains}
use Rattle.std.specs.List.{AllByRecursion}
use Rattle.std.proofs.lemmas.Bool.Decides.{nat_tests}
use Rattle.desk.specs.Passes.{NotAmong, AreDistinct}

pub same_if : (n m : ℕ) → (n == m) ≡ true → n ≡ m
same_if n m is = grind (arith, nat_tests)

pub apart_if : (n m : ℕ) → (n == m) ≡ false → n ≢ m
apart_if n m is = grind (arith, nat_tests)

pub is_same : (n m : ℕ) → n ≡ m → (n == m) ≡ true
is_same n m is = grind (arith, nat_tests)

pub is_apart : (n m : ℕ) → n ≢ m → (n == m) ≡ false
is_apart n m apart = grind (arith, nat_tests)

pub not_among_push : (m : ℕ) (ns : List ℕ) (n : ℕ) → NotAmong m ns → n ≢ m → NotAmong m (ns ++ n ∷ [])
not_among_push m [] n none_same apart = (apart, tt)
not_among_push m (x ∷ ns) n none_same apart = (none_same.0, not_among_push m ns n none_same.1 apart)

pub distinct_push : (ns : List ℕ) (n : ℕ) → AreDistinct ns → NotAmong n ns → AreDistinct (ns ++ n ∷ [])
distinct_push [] n distinct new = (tt, tt)
distinct_push (x ∷ ns) n distinct new = (not_among_push x ns n distinct.0 (λ same. new.0 (sym same)), distinct_push ns n distinct.1 new.1)

-- ---- so many numbers that are apart are all

-- the numbers without the first that is n
abbrev less : ℕ → List ℕ → List ℕ
less n [] = []
less n (x ∷ xs) = if x == n then xs else x ∷ less n xs

less_apart : (n m : ℕ) (ns : List ℕ) → NotAmong m ns → NotAmong m (less n ns)
less_apart n m [] apart = tt
less_apart n m (x ∷ xs) apart =
    let rest = less_apart n m xs apart.1 in
    let first = apart.0 in
    elim (x == n) as (λ b. NotAmong m (if b then xs else x ∷ less n xs)) [ true ↦ apart.1 | false ↦ (first, rest) ]

less_distinct : (n : ℕ) (ns : List ℕ) → AreDistinct ns → AreDistinct (less n ns)
less_distinct n [] distinct = tt
less_distinct n (x ∷ xs) distinct =
    let rest = less_distinct n xs distinct.1 in
    let first = less_apart n x xs distinct.0 in
    elim (x == n) as (λ b. AreDistinct (if b then xs else x ∷ less n xs)) [ true ↦ distinct.1 | false ↦ (first, rest) ]

less_length : (n : ℕ) (ns : List ℕ) → length ns ≤ length (less n ns) + 1
less_length n [] = omega arith
less_length n (x ∷ xs) =
    let rest = less_length n xs in
    elim (x == n) as (λ b. length (x ∷ xs) ≤ length (if b then xs else x ∷ less n xs) + 1) [ true ↦ omega arith | false ↦ omega (arith, rest) ]

below_but : (k : ℕ) (ns : List ℕ) → AllByRecursion (λ n. n < suc k) ns → NotAmong k ns → AllByRecursion (λ n. n < k) ns
below_but k [] below apart = tt
below_but k (x ∷ xs) below apart = (let l = below.0 in let a = apart.0 in omega arith, below_but k xs below.1 apart.1)

below_rest : (k x : ℕ) (xs : List ℕ) (b : Bool) → (x == k) ≡ b → x < suc k → NotAmong x xs → AllByRecursion (λ n. n < suc k) xs → AllByRecursion (λ n. n < k) (less k xs)
    → AllByRecursion (λ n. n < k) (if b then xs else x ∷ less k xs)
below_rest k x xs true is lt apart below rest = below_but k xs below (subst (λ (n : ℕ). NotAmong n xs) (same_if x k is) apart)
below_rest k x xs false is lt apart below rest = (let off = apart_if x k is in omega arith, rest)

less_below : (k : ℕ) (ns : List ℕ) → AreDistinct ns → AllByRecursion (λ n. n < suc k) ns → AllByRecursion (λ n. n < k) (less k ns)
less_below k [] distinct below = tt
less_below k (x ∷ xs) distinct below = below_rest k x xs (x == k) refl below.0 distinct.0 below.1 (less_below k xs distinct.1 below.1)

few : (k : ℕ) (ns : List ℕ) → AreDistinct ns → AllByRecursion (λ n. n < k) ns → length ns ≤ k
few zero [] distinct below = omega arith
few zero (x ∷ xs) distinct below = absurd (let l = below.0 in omega arith)
few (suc k) ns distinct below =
    let fewer = few k (less k ns) (less_distinct k ns distinct) (less_below k ns distinct below) in
    omega (arith, fewer, less_length k ns)

found_or_not : (n : ℕ) (ns : List ℕ) → Contains ns n ⊎ NotAmong n ns
found_or_not n [] = inr tt
found_or_not n (x ∷ xs) = one (x == n) refl (found_or_not n xs)
  where
    one : (b : Bool) → (x == n) ≡ b → Contains xs n ⊎ NotAmong n xs → Contains (x ∷ xs) n ⊎ NotAmong n (x ∷ xs)
    one true is rest = inl (0, omega arith, same_if x n is)
    one false is (inl at) = inl (suc at.0, (let l = at.1 in omega arith), at.2)
    one false is (inr apart) = inr (apart_if x n is, apart)

-- of k numbers below k that are apart, each number below k is one
pub all_found : (k : ℕ) (ns : List ℕ) → AreDistinct ns → AllByRecursion (λ n. n < k) ns → length ns ≡ k → (m : ℕ) → m < k → Contains ns m
all_found k ns distinct below count m lt =
    elim (found_or_not m ns) [
      | inl found ↦ found
      | inr apart ↦ absurd (let l : length (m ∷ ns) ≤ k = few k (m ∷ ns) (apart, distinct) (lt, below) in omega arith)
    ]
