-- A table that is read word by word.
use Rattle.std.proofs.Common.{◌≡◌, ℕ, zero, suc, ◌+◌, ◌-◌, ◌*◌, ◌%◌, ◌<◌, ◌≤◌, Bool, not, cond, eqb, [], ◌∷◌, ◌++◌, refl, sym, ap, ap₂, ◌∙◌, append_assoc, arith, inl, inr, eq-eqb, List}
use Rattle.stage2.proofs.Names.{count_below, Words, nonzero_in, Cursor, Level, TableEntry, pages_at, entry_at, entries_from, entry_row, left_in, IsCursor, PassTheSame, next_first, nat_tests, common_steps, cases_Bool, eqb-true}
use Rattle.pool.proofs.Count.{count_below-more}
use Rattle.stage2.proofs.Editing.ChunkByChunk.{count_below-up}

module _ (level : Level) (first : ℕ) (word : ℕ → ℕ) where
  -- the word at an index, and those behind it
  step : (index : ℕ) → index < 512 → entries_from level first word index (512 - index) ≡ entry_at level (first + pages_at level * index) (word index) ++ entries_from level first word (index + 1) (512 - (index + 1))
  unfolding entries_from
  step index small = grind (arith, common_steps, nat_tests)

  pub skipped : (index : ℕ) → index < 512 → word index % 2 ≡ 0 → entries_from level first word index (512 - index) ≡ entries_from level first word (index + 1) (512 - (index + 1))
  skipped index small even = grind (arith, common_steps, nat_tests, step)

  pub taken : (index : ℕ) → index < 512 → (word index % 2 ≡ 0 → ⊥) → entries_from level first word index (512 - index) ≡ record { level = level; first = first + pages_at level * index; word = word index } ∷ entries_from level first word (index + 1) (512 - (index + 1))
  taken index small odd = grind (arith, common_steps, nat_tests, step)

  -- ---- how many words are not 0

  abbrev some_word : ℕ → Bool
  some_word i = not (eqb (word i) 0)

  none-left : (n i : ℕ) → i + n ≡ 512 → count_below some_word 512 ≤ count_below some_word i → entries_from level first word i n ≡ []
  unfolding entries_from
  none-left zero i all le = refl
  none-left (suc n) i all le = elim (cases_Bool (eqb (word i) 0)) [
    | inl is ↦
        let even : word i % 2 ≡ 0 = omega (arith, eqb-true (word i) 0 is) in
        let next : suc i ≡ i + 1 = omega arith in
        ap (λ b. cond b [] (record { level = level; first = first + pages_at level * i; word = word i } ∷ []) ++ entries_from level first word (suc i) n) (eq-eqb (word i % 2) 0 even)
        ∙ none-left n (suc i) (omega (arith, all)) (omega (arith, le, count_below-more some_word i ∙ ap (λ b. cond (not b) 1 0 + count_below some_word i) is, ap (λ k. count_below some_word k) next))
    | inr some ↦ grind (arith, common_steps, nat_tests, count_below-more some_word i, count_below-up some_word (i + 1) (i + 1 + n))
  ]

-- ---- a cursor

pub ended : (pages : ℕ) (words : Words) (level : Level) (c : Cursor) → IsCursor pages words level c → c.left ≡ 0 → left_in words c ≡ []
unfolding nonzero_in
ended pages words level c is none = grind (arith, common_steps, nat_tests, none-left)

pub at-end : (words : Words) (c : Cursor) → 512 ≤ c.index → left_in words c ≡ []
unfolding entries_from
at-end words c end = grind (arith, common_steps, nat_tests)

-- a word further, of no entry
pub passed : (pages : ℕ) (words : Words) (level : Level) (c : Cursor) → IsCursor pages words level c → c.index < 512 → IsCursor pages words level (record c { index = c.index + 1 })
passed pages words level c is small = grind (arith, common_steps, nat_tests, count_below-more)

-- and of one
pub counted : (pages : ℕ) (words : Words) (level : Level) (c : Cursor) → IsCursor pages words level c → c.index < 512 → 0 < c.left → (words c.table c.index % 2 ≡ 0 → ⊥) → IsCursor pages words level (record c { index = c.index + 1; left = c.left - 1 })
counted pages words level c is small some odd = grind (arith, common_steps, nat_tests, count_below-more)

-- the entry that comes next, behind words of no entry
pub taken-entry : (pages : ℕ) (words : Words) (level : Level) (old c : Cursor) (e : TableEntry) (word first : ℕ) → IsCursor pages words level c → left_in words c ≡ left_in words old → c.index < 512 → word ≡ words c.table c.index → (word % 2 ≡ 0 → ⊥) → first ≡ c.first + pages_at level * c.index → e ≡ record { level = level; first = first; word = word } → left_in words old ≡ e ∷ left_in words (record c { index = c.index + 1; left = c.left - 1 })
taken-entry pages words level old c e word first is same small at odd from so = grind (arith, common_steps, nat_tests, taken)

-- a cursor at the end of a table
over-words : (pages : ℕ) (words : Words) (level : Level) (c : Cursor) → c.level ≡ level → c.index ≡ 512 → c.first ≡ 0 → IsCursor pages words level c
unfolding nonzero_in
over-words pages words level c at end first = grind (arith, common_steps, nat_tests)

pub over-all : (pages : ℕ) (words : Words) (level : Level) (c : Cursor) → c.level ≡ level → c.index ≡ 512 → c.first ≡ 0 → IsCursor pages words level c × (left_in words c ≡ [])
over-all pages words level c at end first = (over-words pages words level c at end first, at-end words c (omega (arith, end)))

-- ---- entries in a row

-- a word more of a level
pub pages-suc : (level : Level) (n : ℕ) → pages_at level * suc n ≡ pages_at level + pages_at level * n
pages-suc level n = grind (arith, common_steps, nat_tests)

pub steps-suc : (level : Level) (n : ℕ) → 4096 * pages_at level * suc n ≡ 4096 * pages_at level + 4096 * pages_at level * n
steps-suc level n = grind (arith, common_steps, nat_tests)

-- one entry more, behind the others
pub row-more : (level : Level) (first word n : ℕ) → entry_row level first word (n + 1) ≡ entry_row level first word n ++ record { level = level; first = first + pages_at level * n; word = word + 4096 * pages_at level * n } ∷ []
unfolding entry_row
row-more level first word zero = grind (arith, common_steps, nat_tests)
row-more level first word (suc n) =
    let span = pages_at level in
    let one : suc n + 1 ≡ suc (n + 1) = omega arith in
    let f : first + span + span * n ≡ first + span * suc n = omega (arith, pages-suc level n) in
    let w : word + 4096 * span + 4096 * span * n ≡ word + 4096 * span * suc n = omega (arith, steps-suc level n) in
    ap (λ k. entry_row level first word k) one
    ∙ ap (λ (xs : List TableEntry). record { level = level; first = first; word = word } ∷ xs) (row-more level (first + span) (word + 4096 * span) n)
    ∙ ap₂ (λ (f w : ℕ). record { level = level; first = first; word = word } ∷ (entry_row level (first + span) (word + 4096 * span) n ++ record { level = level; first = f; word = w } ∷ [])) f w

-- a word further in a row
pub in-row : (words : Words) (level : Level) (old c new : Cursor) (e : TableEntry) (first word n : ℕ) → left_in words old ≡ entry_row level first word n ++ left_in words c → left_in words c ≡ e ∷ left_in words new → e ≡ record { level = level; first = first + pages_at level * n; word = word + 4096 * pages_at level * n } → left_in words old ≡ entry_row level first word (n + 1) ++ left_in words new
in-row words level old c new e first word n so next is = grind (arith, common_steps, nat_tests, row-more)

pages-add : (level : Level) (m n : ℕ) → pages_at level * (m + n) ≡ pages_at level * m + pages_at level * n
pages-add level m n = grind (arith, common_steps, nat_tests)

even-steps : (level : Level) (n : ℕ) → 4096 * pages_at level * n % 2 ≡ 0
even-steps level n = grind (arith, common_steps, nat_tests)

pub odd-row : (level : Level) (w n word : ℕ) → w % 2 ≡ 1 → word ≡ w + 4096 * pages_at level * n → word % 2 ≡ 0 → ⊥
odd-row level w n word odd is even = let steps = even-steps level n in omega (arith, odd, is, even, steps)

pub row-none : (words : Words) (c : Cursor) (level : Level) (first word : ℕ) → left_in words c ≡ entry_row level first word 0 ++ left_in words c
unfolding entry_row
row-none words c level first word = refl

pub row-step : (pages : ℕ) (words : Words) (level : Level) (old c : Cursor) (w n word : ℕ) → IsCursor pages words level c → c.first ≡ old.first → c.index ≡ old.index + n → c.index < 512 → w % 2 ≡ 1 → word ≡ words c.table c.index → word ≡ w + 4096 * pages_at level * n → left_in words old ≡ entry_row level (next_first level old) w n ++ left_in words c → left_in words old ≡ entry_row level (next_first level old) w (n + 1) ++ left_in words (record c { index = c.index + 1; left = c.left - 1 })
row-step pages words level old c w n word is at index small odd so place row =
    let e : TableEntry = record { level = level; first = c.first + pages_at level * c.index; word = word } in
    let first : c.first + pages_at level * c.index ≡ next_first level old + pages_at level * n = omega (arith, at, pages-add level old.index n, ap (λ i. pages_at level * i) index) in
    let next = taken-entry pages words level c c e word (c.first + pages_at level * c.index) is refl small so (odd-row level w n word odd place) refl refl in
    in-row words level old c (record c { index = c.index + 1; left = c.left - 1 }) e (next_first level old) w n row next
    (ap₂ (λ (f x : ℕ). record { level = level; first = f; word = x }) first place)

-- ---- words that are the same in two tables

module _ (level : Level) (first : ℕ) where
  -- the words up to an index, and those from it on
  from-apart : (word : ℕ → ℕ) (m n i : ℕ) → entries_from level first word i (m + n) ≡ entries_from level first word i m ++ entries_from level first word (i + m) n
  unfolding entries_from
  from-apart word zero n i = grind (arith, common_steps, nat_tests)
  from-apart word (suc m) n i =
      let count : suc m + n ≡ suc (m + n) = omega arith in
      let at : suc i + m ≡ i + suc m = omega arith in
      let here = entry_at level (first + pages_at level * i) (word i) in
      ap (λ k. entries_from level first word i k) count
      ∙ ap (λ (xs : List TableEntry). here ++ xs) (from-apart word m n (suc i))
      ∙ sym (append_assoc here (entries_from level first word (suc i) m) (entries_from level first word (suc i + m) n))
      ∙ ap (λ j. here ++ entries_from level first word (suc i) m ++ entries_from level first word j n) at

  from-same : (word other : ℕ → ℕ) (n i : ℕ) → ((x : ℕ) → i ≤ x → x < i + n → word x ≡ other x) → entries_from level first word i n ≡ entries_from level first other i n
  unfolding entries_from
  from-same word other zero i same = refl
  from-same word other (suc n) i same = grind (arith, common_steps, nat_tests, from-same word other n (suc i) (λ x le lt. same x (omega (arith, le)) (omega (arith, lt))))

  pub from-further : (word : ℕ → ℕ) (i : ℕ) → i + 64 ≤ 512 → entries_from level first word i (512 - i) ≡ entries_from level first word i 64 ++ entries_from level first word (i + 64) (512 - (i + 64))
  from-further word i inside = grind (arith, common_steps, nat_tests, from-apart word 64 (512 - (i + 64)) i)

-- so many words further
pub further : (pages : ℕ) (words : Words) (level : Level) (c : Cursor) → IsCursor pages words level c → c.index + 64 ≤ 512 → IsCursor pages words level (record c { index = c.index + 64 })
further pages words level c is inside = grind (arith, common_steps, nat_tests, count_below-up (λ i. not (eqb (words c.table i) 0)) c.index (c.index + 64), is.left, is.at, is.table, is.range)

pub same-more : (pages counts : ℕ) (words others : Words) (level : Level) (old c other d : Cursor) → IsCursor pages words level c → IsCursor counts others level d → PassTheSame (left_in words old) (left_in words c) (left_in others other) (left_in others d) → c.first ≡ d.first → c.index ≡ d.index → c.index + 64 ≤ 512 → ((x : ℕ) → c.index ≤ x → x < c.index + 64 → words c.table x ≡ others d.table x) → PassTheSame (left_in words old) (left_in words (record c { index = c.index + 64 })) (left_in others other) (left_in others (record d { index = d.index + 64 }))
same-more pages counts words others level old c other d is also so first index inside same =
    let run = entries_from c.level c.first (words c.table) c.index 64 in
    let there : run ≡ entries_from d.level d.first (others d.table) d.index 64 =
    from-same c.level c.first (words c.table) (others d.table) 64 c.index same
    ∙ ap (λ l. entries_from l c.first (others d.table) c.index 64) (is.at ∙ sym also.at)
    ∙ ap₂ (λ (f i : ℕ). entries_from d.level f (others d.table) i 64) first index in
    record {
      passed = so.passed ++ run;
      ours = so.ours ∙ ap (λ (xs : List TableEntry). so.passed ++ xs) (from-further c.level c.first (words c.table) c.index inside) ∙ sym (append_assoc so.passed run (left_in words (record c { index = c.index + 64 })));
      theirs = so.theirs ∙ ap (λ (xs : List TableEntry). so.passed ++ xs) (from-further d.level d.first (others d.table) d.index (omega (arith, inside, index)) ∙ ap (λ (xs : List TableEntry). xs ++ left_in others (record d { index = d.index + 64 })) (sym there)) ∙ sym (append_assoc so.passed run (left_in others (record d { index = d.index + 64 })));
    }
