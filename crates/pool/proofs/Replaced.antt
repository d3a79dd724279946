-- Words that are replaced one after another, and what else is kept.
use Rattle.pool.proofs.Names.{common_steps, nat_tests, PageRun, Pool, words_of, nonzero_in, words_set, sets_of, after_set, after_sets, after_replaces}
use Rattle.std.proofs.Common.{◌≡◌, ◌≢◌, ℕ, zero, suc, ◌+◌, ◌*◌, ◌%◌, ◌^◌, ◌<◌, ◌≤◌, arith, length, refl, add-one}
use Rattle.std.proofs.lemmas.List.{length-set}
use Rattle.pool.specs.Pool.{after_break, after_make}
use Rattle.pool.proofs.Words.{word-set}
use Rattle.pool.proofs.Nonzero.{word-read, nonzero-zeros}
use Rattle.pool.proofs.Stretches.{words_set-beside}

-- ---- one word

-- ---- what is kept

-- the words of other pages, which pages are taken, and the count of operations
pub record Keeps (page : ℕ) (a b : Pool) : Type 0 where
  pub ids : b.memory.ids ≡ a.memory.ids
  pub quotas : b.memory.quotas ≡ a.memory.quotas
  pub taken : b.memory.taken ≡ a.memory.taken
  pub whole : length b.memory.words ≡ length a.memory.words
  pub others : (q i : ℕ) → q ≢ page → words_of b.memory.words q i ≡ words_of a.memory.words q i
  pub made : (n : ℕ) → a.made ≡ (n + length a.operations) % 2 ^ 64 → b.made ≡ (n + length b.operations) % 2 ^ 64

pub keeps-self : (page : ℕ) (a : Pool) → Keeps page a a
keeps-self page a = grind (arith, common_steps, nat_tests)

pub keeps-more : (page : ℕ) (a b c : Pool) → Keeps page a b → Keeps page b c → Keeps page a c
keeps-more page a b c so here = grind (arith, so.made, here.made, so.others, here.others)

pub keeps-set : (page index word : ℕ) (a : Pool) → index < 512 → 512 * page + 512 ≤ length a.memory.words → Keeps page a (after_set page index word a)
keeps-set page index word a below room = grind (arith, common_steps, nat_tests, word-set, length-set)

pub keeps-break : (p page index : ℕ) (run : PageRun) (a : Pool) → index < 512 → 512 * page + 512 ≤ length a.memory.words → Keeps page a (after_break p page index run a)
keeps-break p page index run a below room = grind (arith, common_steps, nat_tests, keeps-self, keeps-more, keeps-set)

pub keeps-replaces : (p page first n word step start : ℕ) (a : Pool) → first + n ≤ 512 → 512 * page + 512 ≤ length a.memory.words → Keeps page a (after_replaces p page first n word step start a)
unfolding after_replaces
keeps-replaces p page first zero word step start a small room = keeps-self page a
keeps-replaces p page first (suc n) word step start a small room = grind (arith, common_steps, nat_tests, keeps-self, keeps-set, keeps-more, keeps-break, keeps-replaces p page first n word step start a)

-- none, and one more
pub replaces-none : (p page first word step start : ℕ) (a : Pool) → after_replaces p page first 0 word step start a ≡ a
unfolding after_replaces
replaces-none p page first word step start a = refl

pub replaces-more : (p page first n word step start index next from : ℕ) (a : Pool) → first + n ≡ index → word + step * n ≡ next → start + 512 * n ≡ from
    → after_replaces p page first (n + 1) word step start a ≡ after_make page index next (after_break p page index (record { first = from; count = 512 }) (after_replaces p page first n word step start a))
unfolding after_replaces
replaces-more p page first n word step start index next from a is there at = rw (add-one, is, there, at) refl

-- one alone
pub replaces-one : (p page index next step from : ℕ) (a : Pool) → after_replaces p page index 1 next step from a ≡ after_make page index next (after_break p page index (record { first = from; count = 512 }) a)
replaces-one p page index next step from a = grind (arith, common_steps, replaces-more p page index 0 next step from index next from a, replaces-none)

-- the words of the page that are not yet replaced stay
pub replaces-beside : (p page first n word step start i : ℕ) (a : Pool) → first + n ≤ 512 → 512 * page + 512 ≤ length a.memory.words → first + n ≤ i → words_of (after_replaces p page first n word step start a).memory.words page i ≡ words_of a.memory.words page i
unfolding after_replaces
replaces-beside p page first zero word step start i a small room behind = refl
replaces-beside p page first (suc n) word step start i a small room behind = grind (arith, common_steps, nat_tests, keeps-break, keeps-replaces p page first n word step start a, word-set, replaces-beside p page first n word step start i a)

-- ---- words that are replaced in a page whose words are all 0

-- none is broken, and each is written
pub replaces-fresh : (p page first n word step start : ℕ) (a : Pool) → first + n ≤ 512 → 512 * page + 512 ≤ length a.memory.words → nonzero_in (words_of a.memory.words) page ≡ 0 → 0 < word
    → after_replaces p page first n word step start a ≡ after_sets page first n word step a
unfolding after_replaces words_set sets_of
replaces-fresh p page first zero word step start a small room none some = refl
replaces-fresh p page first (suc n) word step start a small room none some = grind (arith, common_steps, nat_tests, replaces-fresh p page first n word step start a, words_set-beside a.memory.words page first n word step (first + n) room, nonzero-zeros (words_of a.memory.words) page (first + n) none, word-read)
