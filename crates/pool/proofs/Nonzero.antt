-- How many words of a page are not 0, after a write.
use Rattle.pool.proofs.Names.{nat_tests, common_steps, page_count, Words, words_of, put, nonzero_in, CountsNonzero, ◌≡◌, ◌≢◌, ℕ, ◌+◌, ◌*◌, ◌<◌, ◌≤◌, ◌==◌, not, arith, cond, List, replicate, slice_index, slice_set, ap, ◌⊎◌}
use Rattle.std.proofs.lemmas.List.{length-set, length-replicate, get_or-set_same, get_or-set_other}
use Rattle.pool.proofs.Count.{count_below-same, count_below-at, count_below-some, count_below-none, count_below-le, count_below-witness}
use Rattle.pool.proofs.Words.{words_of-zeros}

-- a word of the page is written
pub nonzero-put : (words : Words) (page index word : ℕ) → index < 512
    → nonzero_in (put page index word words) page + cond (words page index == 0) 0 1 ≡ nonzero_in words page + cond (word == 0) 0 1
unfolding nonzero_in put
nonzero-put words page index word below = grind (arith, common_steps, nat_tests, count_below-at (λ i. not (words page i == 0)) (λ i. not (put page index word words page i == 0)) 512 index below)

-- a page whose words are the same
pub nonzero-same : (words others : Words) (page : ℕ) → ((i : ℕ) → others page i ≡ words page i) → nonzero_in others page ≡ nonzero_in words page
unfolding nonzero_in
nonzero-same words others page same = grind (arith, nat_tests, same, count_below-same (λ i. not (words page i == 0)) (λ i. not (others page i == 0)) 512)

pub nonzero-le : (words : Words) (page : ℕ) → nonzero_in words page ≤ 512
unfolding nonzero_in
nonzero-le words page = count_below-le (λ i. not (words page i == 0)) 512

-- a word that is not 0 is counted
pub nonzero-some : (words : Words) (page index : ℕ) → index < 512 → words page index ≢ 0 → 1 ≤ nonzero_in words page
unfolding nonzero_in
nonzero-some words page index below is = grind (arith, nat_tests, count_below-some (λ i. not (words page i == 0)) 512 index below)

-- where none is counted, all are 0
pub nonzero-zeros : (words : Words) (page index : ℕ) → nonzero_in words page ≡ 0 → index < 512 → words page index ≡ 0
nonzero-zeros words page index none below = grind (arith, nat_tests, nonzero-some words page index below)

-- where one is counted, it is there
pub nonzero-word : (words : Words) (page : ℕ) → 0 < nonzero_in words page → (index : ℕ) × (index < 512) × (words page index ≢ 0)
unfolding nonzero_in
nonzero-word words page some = grind (arith, nat_tests, count_below-witness)

-- the word at a place of the list
pub word-read : (words : List ℕ) (page index word : ℕ) → index < 512 → word ≡ slice_index words (512 * page + index) → word ≡ words_of words page index
unfolding words_of
word-read words page index word below is = grind (arith, nat_tests, is)

-- where it is known whether the word is 0, in whose place one comes: one that is not is counted
pub recount-some : (words : List ℕ) (page index count before : ℕ) → index < 512 → count ≡ nonzero_in (words_of words) page → (before == 0) ≡ (words_of words page index == 0) → (1 ≤ count) ⊎ (before ≡ 0)
recount-some words page index count before below counted same = grind (arith, nat_tests, nonzero-some (words_of words) page index below)

-- a word that is read is known
pub read-test : (words : List ℕ) (page index word : ℕ) → index < 512 → word ≡ slice_index words (512 * page + index) → (word == 0) ≡ (words_of words page index == 0)
read-test words page index word below is = ap (λ (w : ℕ). w == 0) (word-read words page index word below is)

-- a page whose words are all 0 has none
pub nonzero-none : (words : Words) (page : ℕ) → ((i : ℕ) → i < 512 → words page i ≡ 0) → nonzero_in words page ≡ 0
unfolding nonzero_in
nonzero-none words page zeros = grind (arith, nat_tests, zeros, count_below-none (λ i. not (words page i == 0)) 512)

-- ---- the list of all counts

pub counts_nonzero-new : (quotas : List ℕ) → CountsNonzero quotas (replicate (512 * page_count quotas) 0) (replicate (page_count quotas) 0)
counts_nonzero-new quotas = grind (arith, common_steps, nat_tests, length-replicate, nonzero-none, words_of-zeros)

-- words of one page are written, and the count that it has then is right
pub counts_nonzero-page : (quotas words new nonzero : List ℕ) (page count : ℕ) → CountsNonzero quotas words nonzero → page < page_count quotas
    → ((q i : ℕ) → q ≢ page → words_of new q i ≡ words_of words q i) → count ≡ nonzero_in (words_of new) page
    → CountsNonzero quotas new (slice_set nonzero page count)
counts_nonzero-page quotas words new nonzero page count counts inside others right = grind (arith, nat_tests, length-set, get_or-set_same, get_or-set_other, nonzero-same)
