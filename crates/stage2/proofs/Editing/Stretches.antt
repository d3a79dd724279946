-- Words of a table that follow one another and are written at once.
use Rattle.std.proofs.Common.{◌≡◌, ◌≢◌, ℕ, zero, suc, ◌+◌, ◌-◌, ◌*◌, ◌^◌, ◌<◌, ◌≤◌, Bool, true, false, List, length, slice_index, Some, None, refl, sym, ap, subst, ◌∙◌, arith, inl, inr}
use Rattle.stage2.proofs.Names.{nat_tests, Access, View, page_count, Leaf, leaf_word_of, entry_of, IsLeafWord, pages_of, Pool, IsWhole, words_of, entry_for, step_for, IsWordFor, Writes, some_pages, WritesPlan, AreSets, AllChange, Filled, words_after, common_steps, cases_eq, cases_lt}
use Rattle.words.proofs.RoundTrip.{entry-zero, entry-page, word-leaf}
use Rattle.pool.specs.Pool.{words_set, sets_of, after_sets}
use Rattle.pool.proofs.Words.{words_of-set_at}
use Rattle.pool.proofs.Stretches.{length-words_set, set-same, words_set-other, words_set-beside, words_set-at}
use Rattle.stage2.proofs.Editing.LeafWords.{word-small}
use Rattle.stage2.proofs.Editing.PlannedWords.{some-in, some-before, some-after}
use Rattle.stage2.proofs.Walkers.Histories.{sets-wider}

-- ---- the words of pages that follow one another

-- the word of a page further on
leaf-further : (p x : ℕ) (a : Access) → leaf_word_of false p a + 4096 * x ≡ leaf_word_of false (p + x) a
unfolding leaf_word_of
leaf-further p x a = omega arith

entry-further : (p x word : ℕ) (a : Access) → p + x < 2 ^ 27 → (leaf : IsLeafWord 3 word p a) → (b : Bool) → leaf.block ≡ b → entry_of 3 (word + 4096 * x) ≡ Leaf (p + x) a
entry-further p x word a small leaf true is = let level : ◌≡◌ {A = ℕ} 3 2 = rw is at leaf.at_level in absurd (omega (arith, level))
entry-further p x word a small leaf false is = grind (arith, common_steps, nat_tests, leaf.spelled, leaf-further p x a, entry-page (p + x) a small leaf.legal)

pub word-further : (p x word : ℕ) (a : Access) → entry_of 3 word ≡ Leaf p a → p + x < 2 ^ 27 → IsWordFor (p + x) (Some a) (word + 4096 * x)
word-further p x word a read small =
    let leaf = word-leaf 3 word p a read in
    record { entry = entry-further p x word a small leaf leaf.block refl; zero = λ none. absurd (cc) }

-- the invalid word stays
pub word-zero : (n x : ℕ) → IsWordFor n None (0 + 0 * x)
word-zero n x = let zero : 0 + 0 * x ≡ 0 = omega arith in rw zero record { entry = entry-zero 3; zero = λ none. refl }

-- a valid one is another
pub word-some : (n : ℕ) (answer : View) (w : ℕ) → answer ≢ None → IsWordFor n answer w → w ≢ 0
word-some n answer w some is = grind (arith, common_steps, nat_tests, entry-zero)

-- the words of a stretch are in range
pub stretch-small : (p word n : ℕ) (answer : View) → p < 2 ^ 27 → n ≤ 512 → entry_of 3 word ≡ entry_for p answer → (answer ≡ None → word ≡ 0) → word + step_for answer * n < 2 ^ 64
stretch-small p word n None small few read is_zero = let none = is_zero refl in omega (arith, none)
stretch-small p word n (Some a) small few read is_zero =
    omega (arith, word-small 3 p word a small (word-leaf 3 word p a read), few)

-- ---- the operations

-- the writes give the words
after-sets : (words : List ℕ) (k first n word step : ℕ) → 512 * k + 512 ≤ length words → first + n ≤ 512
    → words_of (words_set words k first n word step) ≡ words_after (sets_of words k first n word step) (words_of words)
unfolding words_set sets_of
after-sets words k first zero word step whole small = refl
after-sets words k first (suc n) word step whole small = grind (arith, common_steps, nat_tests, length-words_set words k first n word step, after-sets words k first n word step whole (omega (arith, small)), set-same, words_of-set_at)

-- the word that stands in the list at a place
word-in : (words : List ℕ) (k i : ℕ) → i < 512 → words_of words k i ≡ slice_index words (512 * k + i)
unfolding words_of
word-in words k i small = grind (arith, nat_tests, small)

-- each write changes its word
sets-change : (words : List ℕ) (k first n word step : ℕ) → 512 * k + 512 ≤ length words → first + n ≤ 512 → AllChange (words_of words) (sets_of words k first n word step)
unfolding sets_of
sets-change words k first zero word step whole small = tt
sets-change words k first (suc n) word step whole small =
    let set = words_set words k first n word step in
    let index : first + n < 512 = omega (arith, small) in
    let before = after-sets words k first n word step whole (omega (arith, small)) in
    let rest = sets-change words k first n word step whole (omega (arith, small)) in
    elim (cases_eq (slice_index set (512 * k + (first + n))) (word + step * n)) [
      | inl same ↦ grind (arith, common_steps, nat_tests)
      | inr differs ↦ grind (arith, common_steps, nat_tests, word-in set k (first + n) index)
    ]

-- each is planned
sets-planned : (words : List ℕ) (k c first n word step end : ℕ) (answer : View) → first + n ≤ end → ((x : ℕ) → x < n → IsWordFor (512 * c + (first + x)) answer (word + step * x))
    → AreSets k c (some_pages c first end answer) (first + n) (sets_of words k first n word step)
unfolding sets_of
sets-planned words k c first zero word step end answer within is = tt
sets-planned words k c first (suc n) word step end answer within is = grind (arith, common_steps, nat_tests, sets-planned words k c first n word step end answer (omega (arith, within)) (λ x lt. is x (omega (arith, lt))), sets-wider, some-in)

-- ---- the whole stretch

module _ (k c first end word step : ℕ) (answer : View) (s : Pool) (whole : IsWhole s.memory) (inside : k < page_count s.memory.quotas) (ordered : first ≤ end) (most : end ≤ 512)
    (is : (x : ℕ) → x < end - first → IsWordFor (512 * c + (first + x)) answer (word + step * x)) where
  room : 512 * k + 512 ≤ length s.memory.words
  room = omega (arith, whole.words, inside)

  small : first + (end - first) ≤ 512
  small = omega (arith, ordered, most)

  words-stretch : Writes k c (some_pages c first end answer) (pages_of s.memory) (pages_of (after_sets k first (end - first) word step s).memory)
  words-stretch = record {
    ids = refl;
    quotas = refl;
    taken = refl;
    others = λ q i apart. words_set-other s.memory.words k first (end - first) word step q i room small apart;
    here = λ i a below given.
        let from : first ≤ i = grind (arith, common_steps, nat_tests, given, cases_lt i first, some-before c first end answer i) in
        let lt : i < end = grind (arith, common_steps, nat_tests, given, cases_lt i end, some-after c first end answer i) in
        let same : Some answer ≡ Some a = sym (some-in c first end answer i from lt) ∙ given in
        let index : first + (i - first) ≡ i = omega (arith, from) in
        let within : i - first < end - first = omega (arith, from, lt) in
        let word_at : words_of (words_set s.memory.words k first (end - first) word step) k i ≡ word + step * (i - first) =
        ap (words_of (words_set s.memory.words k first (end - first) word step) k) (sym index) ∙ words_set-at s.memory.words k first (end - first) word step (i - first) room small within in
        let answers : answer ≡ a = cc in
        rw (word_at, ← answers) (subst (λ j. IsWordFor (512 * c + j) answer (word + step * (i - first))) index (is (i - first) within));
    stays = λ i below none. grind (arith, common_steps, nat_tests, cases_lt i first, cases_lt i end, some-in c first end answer i, words_set-beside s.memory.words k first (end - first) word step i room small);
  }

  filled-stretch : Filled k c end (some_pages c first end answer) s (after_sets k first (end - first) word step s)
  filled-stretch = record {
    ops = sets_of s.memory.words k first (end - first) word step;
    made = record { operations = refl; count = refl; words = after-sets s.memory.words k first (end - first) word step room small };
    sets = let last : first + (end - first) ≡ end = omega (arith, ordered) in
        subst (λ b. AreSets k c (some_pages c first end answer) b (sets_of s.memory.words k first (end - first) word step)) last
        (sets-planned s.memory.words k c first (end - first) word step end answer (omega (arith, ordered)) is);
    changes = sets-change s.memory.words k first (end - first) word step room small;
  }

  pub writes-stretch : WritesPlan k c end (some_pages c first end answer) s (after_sets k first (end - first) word step s)
  writes-stretch = record { words = words-stretch; made = filled-stretch }
