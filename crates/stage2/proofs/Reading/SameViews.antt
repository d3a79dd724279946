-- Views that are alike on all pages have the same entries, and need as many tables.
use Rattle.stage2.proofs.Names.{View, need, each_below, page_entries, chunk_entries, gigabyte_entries, entries, nat_tests, common_steps, ◌≡◌, ℕ, zero, suc, ◌^◌, ◌<◌, List, ◌++◌, refl, ap₂, arith}
use Rattle.pool.proofs.Count.{count_below-same}
use Rattle.stage2.proofs.Counting.Needs.{mixed-same, reached-same}

-- what is given alike for each number is the same list
pub each-same : {A : Type 0} (f g : ℕ → List A) (n : ℕ) → ((i : ℕ) → i < n → g i ≡ f i) → each_below g n ≡ each_below f n
unfolding each_below
each-same f g zero same = refl
each-same f g (suc n) same = ap₂ (λ a b. a ++ b) (each-same f g n (λ i lt. same i (omega (arith, lt)))) (same n (omega arith))

module _ (v w : ℕ → View) (alike : (n : ℕ) → n < 2 ^ 27 → w n ≡ v n) where
  page-same : (c : ℕ) → c < 262144 → page_entries w c ≡ page_entries v c
  unfolding page_entries
  page-same c small = grind (arith, common_steps, nat_tests, each-same)

  chunk-same : (c : ℕ) → c < 262144 → chunk_entries w c ≡ chunk_entries v c
  unfolding chunk_entries
  chunk-same c small = grind (arith, common_steps, nat_tests, mixed-same, page-same)

  gigabyte-same : (g : ℕ) → g < 512 → gigabyte_entries w g ≡ gigabyte_entries v g
  unfolding gigabyte_entries
  gigabyte-same g small = grind (arith, common_steps, nat_tests, reached-same, each-same, chunk-same)

  pub entries-same : entries w ≡ entries v
  unfolding entries
  entries-same = each-same (gigabyte_entries v) (gigabyte_entries w) 512 gigabyte-same

-- views that are alike on all pages need as many tables
pub need-same : (v w : ℕ → View) → ((n : ℕ) → n < 2 ^ 27 → w n ≡ v n) → need w ≡ need v
unfolding need
need-same v w alike = grind (arith, common_steps, nat_tests, count_below-same, reached-same, mixed-same)
