-- Chunks that follow one another, each of which a run has whole and none of which has a table: their level 2 words are replaced.
use Rattle.std.proofs.Common.{◌≡◌, ℕ, zero, suc, ◌+◌, ◌*◌, ◌%◌, ◌^◌, ◌<◌, ◌≤◌, ◌==◌, Bool, true, false, List, length, Some, None, refl, sym, ap, subst, ◌∙◌, arith, inl, inr}
use Rattle.stage2.proofs.Names.{Access, View, page_count, row_of, PageRun, Entry, Invalid, Table, Leaf, leaf_word_of, entry_of, IsLeafWord, Pages, Pool, IsWhole, words_of, pages_of, put, with_put, after_break, after_make, after_replaces, Layout, slot, slot_from, walked, next_page, block_step, edited, answers_in, covers_chunk, IsEntryFor, Puts, IsUnderway, Made, replaced, StaysInStep, answers, linked, IsSeated, disturbed_below, nat_tests, common_steps, cases_Bool, eqb-true}
use Rattle.words.specs.declared.word.Entry.TheVariants.{Wrong}
use Rattle.words.proofs.RoundTrip.{entry-block, entry-zero, word-leaf, word-table, type-table}
use Rattle.pool.proofs.Words.{pages_of-set}
use Rattle.pool.proofs.Replaced.{Keeps, keeps-break, keeps-replaces, replaces-none, replaces-more, replaces-beside}
use Rattle.stage2.proofs.Counting.Needs.{filled-touches, outcome-filled}
use Rattle.stage2.proofs.Editing.LeafWords.{word-small}
use Rattle.stage2.proofs.Editing.ChunkByChunk.{site, underway-edit}
use Rattle.stage2.proofs.Editing.FourChunkEdits.{does-set}
use Rattle.stage2.proofs.Tree.PutTwice.{with_put-there, with_put-twice}
use Rattle.stage2.proofs.Walkers.ChunkSteps.{march-edit, march-seated}
use Rattle.stage2.proofs.Walkers.Disturbed.{stays-whole, unmixed-after}
use Rattle.stage2.proofs.Walkers.Histories.{made-none}
use Rattle.stage2.proofs.Walkers.SeatedChunks.{hung-seen, gives-block, block-no-table}
use Rattle.stage2.proofs.Walkers.StepLists.{stays-replaced}

-- ---- one word

whole-kept : (page : ℕ) (a b : Pool) → Keeps page a b → IsWhole a.memory → IsWhole b.memory
whole-kept page a b keeps whole = grind (arith, common_steps, nat_tests)

-- it is broken, and another is written
module _ (p j i word c : ℕ) (s : Pool) (whole : IsWhole s.memory) (inside : j < page_count s.memory.quotas) (below : i < 512) where
  abbrev pub mid : Pool
  mid = after_break p j i (record { first = 512 * c; count = 512 }) s

  room : 512 * j + 512 ≤ length s.memory.words
  room = omega (arith, whole.words, inside)

  whole-mid : IsWhole mid.memory
  whole-mid = whole-kept j s mid (keeps-break p j i (record { first = 512 * c; count = 512 }) s below room) whole

  inside-mid : j < page_count mid.memory.quotas
  inside-mid = grind (arith, common_steps, nat_tests, keeps-break, room)

  break-pages : pages_of mid.memory ≡ with_put j i 0 (pages_of s.memory)
  break-pages = elim (cases_Bool (words_of s.memory.words j i == 0)) [
    | inl is ↦ rw is (sym (with_put-there (pages_of s.memory) j i 0 (eqb-true _ _ is)))
    | inr isnt ↦ rw isnt (pages_of-set s.memory j i 0 whole inside below)
  ]

  pub replace-pages : pages_of (after_make j i word mid).memory ≡ with_put j i word (pages_of s.memory)
  replace-pages = elim (cases_Bool (word == 0)) [
    | inl is ↦
        rw is (break-pages ∙ ap (λ w. with_put j i w (pages_of s.memory)) (sym (eqb-true _ _ is)))
    | inr isnt ↦
        rw isnt (pages_of-set mid.memory j i word whole-mid inside-mid below ∙ ap (with_put j i word) break-pages ∙ with_put-twice (pages_of s.memory) j i 0 word)
  ]

  pub replace-made : c % 512 ≡ i → Made (replaced p j c (words_of s.memory.words j i) word) s (after_make j i word mid)
  replace-made index = grind (arith, common_steps, nat_tests, made-none, pages_of-set, whole-mid, inside-mid)

-- ---- the words of chunks that follow one another

block-further-word : (c x : ℕ) (a : Access) → leaf_word_of true (512 * c) a + 2097152 * x ≡ leaf_word_of true (512 * (c + x)) a
unfolding leaf_word_of
block-further-word c x a = omega arith

block-entry : (c x word : ℕ) (a : Access) → 512 * (c + x) < 2 ^ 27 → (leaf : IsLeafWord 2 word (512 * c) a) → (b : Bool) → leaf.block ≡ b → entry_of 2 (word + 2097152 * x) ≡ Leaf (512 * (c + x)) a
block-entry c x word a small leaf false is = let level : ◌≡◌ {A = ℕ} 2 3 = rw is at leaf.at_level in absurd (omega (arith, level))
block-entry c x word a small leaf true is = grind (arith, common_steps, nat_tests, leaf.spelled, block-further-word c x a, entry-block)

-- so they are in range
pub blocks-small : (c word n : ℕ) (answer : View) → 512 * c < 2 ^ 27 → n ≤ 512 → IsEntryFor c answer word → word + block_step answer * n < 2 ^ 64
blocks-small c word n None small few is = let none = is.zero refl in omega (arith, none)
blocks-small c word n (Some a) small few is =
    omega (arith, word-small 2 (512 * c) word a small (word-leaf 2 word (512 * c) a is.entry), few)

pub block-further : (c x word : ℕ) (answer : View) → 512 * (c + x) < 2 ^ 27 → IsEntryFor c answer word → IsEntryFor (c + x) answer (word + block_step answer * x)
block-further c x word None small is = grind (arith, common_steps, nat_tests, is.zero refl, entry-zero 2)
block-further c x word (Some a) small is =
    let leaf = word-leaf 2 word (512 * c) a is.entry in
    record { entry = block-entry c x word a small leaf leaf.block refl; zero = λ none. absurd (cc) }

-- ---- a word that points at no table

slot-plain : (layout : Layout) (word : ℕ) (e : Entry) → entry_of 2 word ≡ e → (word % 4 ≡ 3 → ⊥) → next_page (slot_from layout e) ≡ None
slot-plain layout word Invalid read other = refl
slot-plain layout word (Leaf n a) read other = refl
slot-plain layout word Wrong read other = refl
slot-plain layout word (Table n) read other = absurd (other (ap (λ w. w % 4) (word-table 2 word n read).spelled ∙ type-table n))

pub plain-slot : (layout : Layout) (word : ℕ) → (word % 4 ≡ 3 → ⊥) → next_page (slot layout 2 word) ≡ None
unfolding slot
plain-slot layout word other = slot-plain layout word (entry_of 2 word) refl other

-- ---- chunks that are filled

module _ (layout : Layout) (row g j : ℕ) (runs : List PageRun) (access : View) (old : Pages) (partition : row < length layout.ids) (below : g < 512) (p : ℕ) (is_row : row_of layout.ids p ≡ row) (a : Pool) where
  abbrev pub before : ℕ → View
  before = answers layout (linked layout row g j old).words row

  -- the chunks before the i-th are edited
  abbrev pub EditedUpTo : ℕ → Pool → Type 0
  EditedUpTo i s = IsUnderway layout row g j i (edited runs access before) old (pages_of s.memory)

  abbrev pub StaysUpTo : ℕ → Pool → Type 0
  StaysUpTo i s = StaysInStep layout row (disturbed_below g i runs before (edited runs access before)) (λ n. walked n (edited runs access before n)) a s

  -- the next one is filled
  module _ (i word : ℕ) (lt : i < 512) (s t : Pool) (h : EditedUpTo i s) (filled : covers_chunk (512 * g + i) runs ≡ true) (none : next_page (slot layout 2 (words_of s.memory.words j i)) ≡ None)
      (is : IsEntryFor (512 * g + i) access word) (puts : Puts j i word s t) (made : Made (replaced p j (512 * g + i) (words_of s.memory.words j i) word) s t) where
    abbrev view : ℕ → View
    view = answers_in layout row (512 * g + i) j (pages_of s.memory)

    index : (512 * g + i) % 512 ≡ i
    index = omega (arith, lt)

    pub edited-next : EditedUpTo (i + 1) t
    edited-next =
        underway-edit layout row g j runs access old partition below i lt (pages_of s.memory) h (pages_of t.memory)
        (does-set (site layout row g j runs access old partition below i lt (pages_of s.memory) h) (edited runs access view) access word (pages_of t.memory)
        (rw index none) is (rw index puts) (outcome-filled runs access view (512 * g + i) filled))

    pub stays-next : IsSeated layout row g j old → StaysUpTo i s → StaysUpTo (i + 1) t
    stays-next seated so =
        march-edit layout row g j runs access old partition below i lt (pages_of s.memory) h a s t (filled-touches runs (512 * g + i) filled) so
        (stays-whole layout row (512 * g + i) runs access view s t (unmixed-after (512 * g + i) view (edited runs access view) access (outcome-filled runs access view (512 * g + i) filled))
        (stays-replaced _ _ partition (omega (arith, below, lt))
        (hung-seen (site layout row g j runs access old partition below i lt (pages_of s.memory) h) (march-seated layout row g j runs access old partition below i lt (pages_of s.memory) h seated))
        is_row
        (λ k next. let gone = block-no-table layout (512 * g + i) word access is in absurd (cc))
        (λ n small at. gives-block layout (put j ((512 * g + i) % 512) word (words_of s.memory.words)) (512 * g + i) word (edited runs access view) access is (outcome-filled runs access view (512 * g + i) filled) n at)
        (subst (λ x. Made (replaced p j (512 * g + i) (words_of s.memory.words j x) word) s t) (sym index) made)))

  -- and so are some of them, one after another
  module _ (first word : ℕ) (s : Pool) (whole : IsWhole s.memory) (inside : j < page_count s.memory.quotas) (is : IsEntryFor (512 * g + first) access word) where
    abbrev pub Filled : ℕ → Pool
    Filled n = after_replaces p j first n word (block_step access) (512 * (512 * g + first)) s

    space : 512 * j + 512 ≤ length s.memory.words
    space = omega (arith, whole.words, inside)

    -- the one that follows the first n
    abbrev FilledNext : ℕ → Pool
    FilledNext n = after_make j (first + n) (word + block_step access * n) (after_break p j (first + n) (record { first = 512 * (512 * g + (first + n)); count = 512 }) (Filled n))

    filled-next : (n : ℕ) → Filled (n + 1) ≡ FilledNext n
    filled-next n = replaces-more p j first n word (block_step access) (512 * (512 * g + first)) (first + n) (word + block_step access * n) (512 * (512 * g + (first + n))) s refl refl (omega arith)

    module _ (n : ℕ) (lt : first + n < 512) where
      whole-n : IsWhole (Filled n).memory
      whole-n = whole-kept j s (Filled n) (keeps-replaces p j first n word (block_step access) (512 * (512 * g + first)) s (omega (arith, lt)) space) whole

      inside-n : j < page_count (Filled n).memory.quotas
      inside-n = grind (arith, common_steps, nat_tests, keeps-replaces, space)

      puts-n : Puts j (first + n) (word + block_step access * n) (Filled n) (Filled (n + 1))
      puts-n = rw (filled-next n) (replace-pages p j (first + n) (word + block_step access * n) (512 * g + (first + n)) (Filled n) whole-n inside-n lt)

      made-n : Made (replaced p j (512 * g + (first + n)) (words_of (Filled n).memory.words j (first + n)) (word + block_step access * n)) (Filled n) (Filled (n + 1))
      made-n = rw (filled-next n) (replace-made p j (first + n) (word + block_step access * n) (512 * g + (first + n)) (Filled n) whole-n inside-n lt (omega (arith, lt)))

      is-n : IsEntryFor (512 * g + (first + n)) access (word + block_step access * n)
      is-n =
          let there : 512 * g + first + n ≡ 512 * g + (first + n) = omega arith in
          subst (λ c. IsEntryFor c access (word + block_step access * n)) there (block-further (512 * g + first) n word access (omega (arith, below, lt)) is)

    module _ (end : ℕ) (most : end ≤ 512) (filled : (x : ℕ) → first ≤ x → x < end → covers_chunk (512 * g + x) runs ≡ true) (none : (x : ℕ) → first ≤ x → x < end → next_page (slot layout 2 (words_of s.memory.words j x)) ≡ None)
        (h : EditedUpTo first s) where
      none-n : (n : ℕ) → first + n < end → next_page (slot layout 2 (words_of (Filled n).memory.words j (first + n))) ≡ None
      none-n n lt = grind (arith, common_steps, nat_tests, replaces-beside, space)

      pub edited-many : (n : ℕ) → first + n ≤ end → EditedUpTo (first + n) (Filled n)
      edited-many zero le = grind (arith, common_steps, nat_tests, replaces-none p j first word (block_step access) (512 * (512 * g + first)) s)
      edited-many (suc n) le =
          let lt : first + n < 512 = omega (arith, le, most) in
          let next = edited-next (first + n) (word + block_step access * n) lt (Filled n) (Filled (n + 1)) (edited-many n (omega (arith, le))) (filled (first + n) (omega arith) (omega (arith, le))) (none-n n (omega (arith, le))) (is-n n lt) (puts-n n lt) (made-n n lt) in
          let there : first + n + 1 ≡ first + suc n = omega arith in
          let more : n + 1 ≡ suc n = omega arith in
          subst (λ k. EditedUpTo (first + suc n) (Filled k)) more (subst (λ i. EditedUpTo i (Filled (n + 1))) there next)

      pub stays-many : (n : ℕ) → first + n ≤ end → IsSeated layout row g j old → StaysUpTo first s → StaysUpTo (first + n) (Filled n)
      stays-many zero le seated so =
          let start : first ≡ first + 0 = omega arith in
          subst (λ i. StaysUpTo i (Filled 0)) start (rw (replaces-none p j first word (block_step access) (512 * (512 * g + first)) s) so)
      stays-many (suc n) le seated so =
          let lt : first + n < 512 = omega (arith, le, most) in
          let next = stays-next (first + n) (word + block_step access * n) lt (Filled n) (Filled (n + 1)) (edited-many n (omega (arith, le))) (filled (first + n) (omega arith) (omega (arith, le))) (none-n n (omega (arith, le))) (is-n n lt) (puts-n n lt) (made-n n lt) seated (stays-many n (omega (arith, le)) seated so) in
          let there : first + n + 1 ≡ first + suc n = omega arith in
          let more : n + 1 ≡ suc n = omega arith in
          subst (λ k. StaysUpTo (first + suc n) (Filled k)) more (subst (λ i. StaysUpTo i (Filled (n + 1))) there next)
