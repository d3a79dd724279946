-- Words of a page that follow one another, and the operations that write them.
use Rattle.pool.proofs.Names.{common_steps, nat_tests, Pool, words_of, nonzero_in, words_set, sets_of, counted, after_set, after_sets, Op, Set, WordRange, with_range, range_set, writes_of, NoneThere, cases_eq}
use Rattle.std.proofs.Common.{◌≡◌, ◌≢◌, ℕ, zero, suc, ◌+◌, ◌-◌, ◌*◌, ◌%◌, ◌^◌, ◌<◌, ◌≤◌, arith, List, [], ◌∷◌, ◌++◌, length, reverse, slice_index, slice_set, refl, ◌⊎◌, inl, inr, Vec, Global, vec_len}
use Rattle.pool.proofs.Words.{words_of-set_at, word-set}
use Rattle.pool.proofs.Nonzero.{word-read, nonzero-put}

-- their number stays
pub length-words_set : (words : List ℕ) (page first n word step : ℕ) → length (words_set words page first n word step) ≡ length words
unfolding words_set
length-words_set words page first zero word step = refl
length-words_set words page first (suc n) word step = grind (arith, common_steps, nat_tests, length-words_set words page first n word step)

-- how many operations were made after some more
pub counted-length : (ops : List Op) (n : ℕ) → counted ops (n % 2 ^ 64) ≡ (n + length ops) % 2 ^ 64
counted-length [] n = omega arith
counted-length (op ∷ ops) n = grind (arith, common_steps, nat_tests, counted-length ops n)

-- a word that is written where it stands
pub set-same : (items : List ℕ) (place word : ℕ) → place < length items → slice_index items place ≡ word → slice_set items place word ≡ items
set-same items place word inside is = grind (arith, common_steps, nat_tests)

-- ---- one word

pub set-one : (page index word step : ℕ) (pool : Pool) → slice_index pool.memory.words (512 * page + index) ≢ word → after_sets page index 1 word step pool ≡ after_set page index word pool
unfolding words_set sets_of
set-one page index word step pool differs = grind (arith, common_steps, nat_tests)

-- or it is there
pub pass-one : (page index word step : ℕ) (pool : Pool) → 512 * page + index < length pool.memory.words → slice_index pool.memory.words (512 * page + index) ≡ word → after_sets page index 1 word step pool ≡ pool
unfolding words_set sets_of
pass-one page index word step pool inside is = grind (arith, common_steps, nat_tests, set-same)

-- ---- the words of a range up to an index

-- none of them
module _ (r : WordRange) where
  pub first-word : r.word ≡ r.word + r.step * (r.first - r.first)
  first-word = let none : r.first - r.first ≡ 0 = omega arith in rw none (omega arith)

  pub first-words : (words : List ℕ) → with_range words (record r { end = r.first }) ≡ words
  unfolding words_set
  first-words words = let none : r.first - r.first ≡ 0 = omega arith in rw none refl

  pub first-writes : (words : List ℕ) → writes_of words (record r { end = r.first }) ≡ []
  unfolding sets_of
  first-writes words = let none : r.first - r.first ≡ 0 = omega arith in rw none refl

  pub first-set : (pool : Pool) → range_set (record r { end = r.first }) pool ≡ pool
  first-set pool = grind (arith, common_steps, first-words pool.memory.words, first-writes pool.memory.words)

-- one more
module _ (r : WordRange) (i word : ℕ) (from : r.first ≤ i) (is : word ≡ r.word + r.step * (i - r.first)) where
  more : (i + 1) - r.first ≡ suc (i - r.first)
  more = omega (arith, from)

  at : r.first + (i - r.first) ≡ i
  at = omega (arith, from)

  pub next-word : word + r.step ≡ r.word + r.step * ((i + 1) - r.first)
  next-word = rw more (omega (arith, is))

  pub next-words : (words : List ℕ) → with_range words (record r { end = i + 1 }) ≡ slice_set (with_range words (record r { end = i })) (512 * r.page + i) word
  unfolding words_set
  next-words words = rw (more, at, is) refl

  -- which is not there
  pub next-writes : (words : List ℕ) → slice_index (with_range words (record r { end = i })) (512 * r.page + i) ≢ word → writes_of words (record r { end = i + 1 }) ≡ Set r.page i word ∷ writes_of words (record r { end = i })
  unfolding sets_of
  next-writes words differs = rw (more, at, is) (grind (arith, common_steps, nat_tests))

  pub next-set : (pool : Pool) → slice_index (with_range pool.memory.words (record r { end = i })) (512 * r.page + i) ≢ word → range_set (record r { end = i + 1 }) pool ≡ after_set r.page i word (range_set (record r { end = i }) pool)
  next-set pool differs = grind (arith, common_steps, next-words pool.memory.words, next-writes pool.memory.words)

  -- or which is
  pub next-pass : (pool : Pool) → 512 * r.page + i < length pool.memory.words → slice_index (with_range pool.memory.words (record r { end = i })) (512 * r.page + i) ≡ word → range_set (record r { end = i + 1 }) pool ≡ range_set (record r { end = i }) pool
  unfolding words_set sets_of
  next-pass pool inside same = rw (more, at) (grind (arith, common_steps, nat_tests, set-same, length-words_set))

-- ---- other words

-- the words of another page stay
pub words_set-other : (words : List ℕ) (page first n word step q i : ℕ) → 512 * page + 512 ≤ length words → first + n ≤ 512 → q ≢ page
    → words_of (words_set words page first n word step) q i ≡ words_of words q i
unfolding words_set
words_set-other words page first zero word step q i whole small other = refl
words_set-other words page first (suc n) word step q i whole small other = grind (arith, nat_tests, length-words_set words page first n word step, word-set, words_set-other words page first n word step q i)

-- so do those of the page that are not among them
pub words_set-beside : (words : List ℕ) (page first n word step i : ℕ) → 512 * page + 512 ≤ length words → first + n ≤ 512 → (i < first) ⊎ (first + n ≤ i)
    → words_of (words_set words page first n word step) page i ≡ words_of words page i
unfolding words_set
words_set-beside words page first zero word step i whole small beside = refl
words_set-beside words page first (suc n) word step i whole small beside = grind (arith, nat_tests, length-words_set words page first n word step, word-set, words_set-beside words page first n word step i)

-- and those are what they are to be
pub words_set-at : (words : List ℕ) (page first n word step x : ℕ) → 512 * page + 512 ≤ length words → first + n ≤ 512 → x < n
    → words_of (words_set words page first n word step) page (first + x) ≡ word + step * x
unfolding words_set
words_set-at words page first zero word step x whole small lt = absurd (omega (arith, lt))
words_set-at words page first (suc n) word step x whole small lt = grind (arith, nat_tests, length-words_set words page first n word step, word-set, words_set-at words page first n word step x)

-- ---- stretches whose words are all 0, or none of which is

-- how many are not 0 then
pub nonzero-filled : (words : List ℕ) (page first n word step : ℕ) → 512 * page + 512 ≤ length words → first + n ≤ 512 → ((x : ℕ) → x < n → words_of words page (first + x) ≡ 0) → 0 < word
    → nonzero_in (words_of (words_set words page first n word step)) page ≡ nonzero_in (words_of words) page + n
unfolding words_set
nonzero-filled words page first zero word step room small zeros some = omega arith
nonzero-filled words page first (suc n) word step room small zeros some = grind (arith, nat_tests, length-words_set, words_of-set_at, words_set-beside, nonzero-put, nonzero-filled words page first n word step room (omega (arith, small)) (λ x lt. zeros x (omega (arith, lt))) some)

pub nonzero-cleared : (words : List ℕ) (page first n : ℕ) → 512 * page + 512 ≤ length words → first + n ≤ 512 → ((x : ℕ) → x < n → words_of words page (first + x) ≢ 0)
    → nonzero_in (words_of (words_set words page first n 0 0)) page + n ≡ nonzero_in (words_of words) page
unfolding words_set
nonzero-cleared words page first zero room small others = omega arith
nonzero-cleared words page first (suc n) room small others = grind (arith, nat_tests, length-words_set, words_of-set_at, words_set-beside, nonzero-put, nonzero-cleared words page first n room (omega (arith, small)) (λ x lt. others x (omega (arith, lt))))

-- none of a range is there: the next one is not once the words before it are written
pub next-differs : (r : WordRange) (i word : ℕ) (words : List ℕ) → r.first ≤ i → word ≡ r.word + r.step * (i - r.first) → i < 512 → 512 * r.page + 512 ≤ length words → NoneThere words (record r { end = i + 1 })
    → slice_index (with_range words (record r { end = i })) (512 * r.page + i) ≢ word
next-differs r i word words from is small room differ same = grind (arith, nat_tests, differ (i - r.first), words_set-beside words r.page r.first (i - r.first) r.word r.step i room, word-read (with_range words (record r { end = i })) r.page i (slice_index (with_range words (record r { end = i })) (512 * r.page + i)) small refl)

-- ---- how many operations they are

-- no more than one for each word
pub length-sets_of-le : (words : List ℕ) (page first n word step : ℕ) → length (sets_of words page first n word step) ≤ n
unfolding sets_of
length-sets_of-le words page first zero word step = omega arith
length-sets_of-le words page first (suc n) word step = grind (arith, common_steps, nat_tests, length-sets_of-le words page first n word step)

-- for some of the words no more than for all
pub length-sets_of-part : (words : List ℕ) (page first a n word step : ℕ) → a ≤ n → length (sets_of words page first a word step) ≤ length (sets_of words page first n word step)
unfolding sets_of
length-sets_of-part words page first a zero word step few = let none : a ≡ 0 = omega (arith, few) in rw none (omega arith)
length-sets_of-part words page first a (suc n) word step few = elim (cases_eq a (suc n)) [
  | inl all ↦ rw all (omega arith)
  | inr less ↦ grind (arith, common_steps, nat_tests, length-sets_of-part words page first a n word step)
]

-- so much longer is the list then
pub vec_len-made : (old new : Vec Op Global) (sets : List Op) → reverse new.items ≡ sets ++ reverse old.items → vec_len new ≡ vec_len old + length sets
vec_len-made old new sets made = grind (arith, common_steps, nat_tests)

-- where words become 0, each operation leaves one less that is not
pub nonzero-sets_of : (words : List ℕ) (page first n : ℕ) → 512 * page + 512 ≤ length words → first + n ≤ 512
    → length (sets_of words page first n 0 0) + nonzero_in (words_of (words_set words page first n 0 0)) page ≡ nonzero_in (words_of words) page
unfolding words_set sets_of
nonzero-sets_of words page first zero room small = omega arith
nonzero-sets_of words page first (suc n) room small = grind (arith, nat_tests, length-words_set, word-read, set-same, nonzero-put, words_of-set_at, nonzero-sets_of words page first n room (omega (arith, small)))
