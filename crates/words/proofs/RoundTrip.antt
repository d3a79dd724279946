-- Reading gives back what was written, and what is read is what the word spells.
use Rattle.std.proofs.Common.{◌≡◌, ℕ, ◌+◌, ◌*◌, ◌/◌, ◌%◌, ◌^◌, ◌<◌, Bool, true, false, ◌==◌, ◌&&◌, if◌then◌else◌, nat_lt, IsTrue, refl, arith, sym, ◌∙◌, ap, subst}
use Rattle.std.proofs.lemmas.Bool.{eqb-true, ltb-true, false≢true}
use Rattle.std.proofs.lemmas.Bool.Decides.{nat_tests}
use Rattle.std.proofs.lemmas.Grind.{common_steps}
use Rattle.base.specs.Access.{Access, IsLegal}
use Rattle.words.specs.declared.word.Entry.{Entry}
use Rattle.words.specs.declared.word.Entry.TheVariants.{Invalid, Table, Leaf, Wrong}
use Rattle.words.specs.Words.{type_bits, leaf_fields, leaf_word_of, table_word_of, leaf_level, page_at, is_normal_at, is_executable_at, access_at, is_aligned, leaf_at, entry_of, IsTableWord, IsLeafWord, SpellsEntry}
use Rattle.words.proofs.Bits.{fields, or-leaf, or-table}
use Rattle.base.proofs.Booleans.{both}

-- ---- an address and the fields that are added to it do not change one another

attributes-sum : (n c : ℕ) → (n * 2 ^ 12 + c) / 2 ^ 2 % 2 ^ 4 ≡ c / 2 ^ 2 % 2 ^ 4
attributes-sum n c = omega arith

rights-sum : (n c : ℕ) → (n * 2 ^ 12 + c) / 2 ^ 6 % 2 ^ 2 ≡ c / 2 ^ 6 % 2 ^ 2
rights-sum n c = omega arith

execute_never-sum : (n c : ℕ) → n < 2 ^ 27 → c % 2 ^ 39 < 2 ^ 12 → (n * 2 ^ 12 + c) / 2 ^ 53 % 2 ^ 2 ≡ c / 2 ^ 53 % 2 ^ 2
execute_never-sum n c in_range apart = omega arith

access_at-sum : (n c : ℕ) → n < 2 ^ 27 → c % 2 ^ 39 < 2 ^ 12 → access_at (n * 2 ^ 12 + c) ≡ access_at c
unfolding access_at
access_at-sum n c in_range apart = simp (attributes-sum n c, rights-sum n c, execute_never-sum n c in_range apart)

page_at-sum : (n c : ℕ) → n < 2 ^ 27 → c % 2 ^ 39 < 2 ^ 12 → page_at (n * 2 ^ 12 + c) ≡ n
unfolding page_at
page_at-sum n c in_range apart = omega arith

-- ---- the fields of the words that are written

-- bits 1:0 tell a block from a page and a table
pub type-leaf : (b : Bool) (n : ℕ) (p : Access) → IsLegal p → leaf_word_of b n p % 4 ≡ type_bits b
unfolding leaf_word_of
type-leaf b n p legal = omega (arith, (fields b p legal).type)

pub type-table : (n : ℕ) → table_word_of n % 4 ≡ 3
unfolding table_word_of
type-table n = omega arith

-- bit 0 is set: they are valid descriptors
pub odd-leaf : (b : Bool) (n : ℕ) (p : Access) → IsLegal p → leaf_word_of b n p % 2 ≡ 1
odd-leaf true n p legal = omega (arith, type-leaf true n p legal)
odd-leaf false n p legal = omega (arith, type-leaf false n p legal)

pub odd-table : (n : ℕ) → table_word_of n % 2 ≡ 1
odd-table n = omega (arith, type-table n)

-- the page and the access are the ones that were given
pub page_at-leaf : (b : Bool) (n : ℕ) (p : Access) → n < 2 ^ 27 → IsLegal p → page_at (leaf_word_of b n p) ≡ n
unfolding leaf_word_of
page_at-leaf b n p in_range legal = page_at-sum n (leaf_fields b p) in_range (fields b p legal).apart

pub page_at-table : (n : ℕ) → n < 2 ^ 27 → page_at (table_word_of n) ≡ n
unfolding table_word_of
page_at-table n in_range = page_at-sum n 3 in_range (omega arith)

pub access_at-leaf : (b : Bool) (n : ℕ) (p : Access) → n < 2 ^ 27 → IsLegal p → access_at (leaf_word_of b n p) ≡ p
unfolding leaf_word_of
access_at-leaf b n p in_range legal = access_at-sum n (leaf_fields b p) in_range (fields b p legal).apart ∙ (fields b p legal).named

leaf_at-leaf : (b : Bool) (n : ℕ) (p : Access) → n < 2 ^ 27 → IsLegal p → is_aligned b n ≡ true → leaf_at b (leaf_word_of b n p) ≡ Leaf n p
unfolding leaf_at
leaf_at-leaf b n p in_range legal aligned = simp (page_at-leaf b n p in_range legal, access_at-leaf b n p in_range legal, aligned) (grind (arith, nat_tests))

-- ---- reading gives back what was written

-- the invalid descriptor that is written is 0
pub entry-zero : (level : ℕ) → entry_of level 0 ≡ Invalid
unfolding entry_of
entry-zero level = refl

-- a table at levels 1 and 2
pub entry-table : (level n : ℕ) → level < 3 → n < 2 ^ 27 → entry_of level (table_word_of n) ≡ Table n
unfolding entry_of
entry-table level n at_level in_range =
    let odd : table_word_of n % 2 ≡ 1 = odd-table n in
    let back : page_at (table_word_of n) ≡ n = page_at-table n in_range in
    grind (arith, nat_tests, back)

-- a page at level 3
pub entry-page : (n : ℕ) (p : Access) → n < 2 ^ 27 → IsLegal p → entry_of 3 (leaf_word_of false n p) ≡ Leaf n p
unfolding entry_of
entry-page n p in_range legal = simp (odd-leaf false n p legal) (leaf_at-leaf false n p in_range legal refl)

-- a block at level 2
pub entry-block : (n : ℕ) (p : Access) → n < 2 ^ 27 → IsLegal p → n % 512 ≡ 0 → entry_of 2 (leaf_word_of true n p) ≡ Leaf n p
unfolding entry_of
entry-block n p in_range legal aligned =
    let no_table : (leaf_word_of true n p == table_word_of n) ≡ false = grind (arith, nat_tests, type-leaf true n p legal, type-table n) in
    let at_2_mb : (n % 512 == 0) ≡ true = grind (arith, nat_tests) in
    simp (odd-leaf true n p legal, page_at-leaf true n p in_range legal, no_table) (leaf_at-leaf true n p in_range legal at_2_mb)

-- a leaf at its level
pub entry-leaf : (b : Bool) (n : ℕ) (p : Access) → n < 2 ^ 27 → IsLegal p → (IsTrue b → n % 512 ≡ 0) → entry_of (leaf_level b) (leaf_word_of b n p) ≡ Leaf n p
entry-leaf true n p in_range legal aligned = entry-block n p in_range legal (aligned refl)
entry-leaf false n p in_range legal aligned = entry-page n p in_range legal

-- for the proofs of the functions that write
pub ruleset written = (or-leaf, or-table, entry-leaf, entry-table)

-- ---- what is read is what the word spells

-- what an entry that was read says of the word; `Wrong` says nothing yet
abbrev Tells : ℕ → ℕ → Entry → Type 0
Tells level w Invalid = w % 2 ≡ 0
Tells level w (Table n) = IsTableWord level w n
Tells level w (Leaf n p) = IsLeafWord level w n p
Tells level w Wrong = Unit {0}

either-entry : (P : Entry → Type 0) (b : Bool) (x y : Entry) → (b ≡ true → P x) → (b ≡ false → P y) → P (if b then x else y)
either-entry P true x y first second = first refl
either-entry P false x y first second = second refl

page_at-lt : (w : ℕ) → page_at w < 2 ^ 27
unfolding page_at
page_at-lt w = omega arith

access_at-legal : (w : ℕ) → IsLegal (access_at w)
unfolding access_at
access_at-legal w e = rw (both (is_normal_at w) (is_executable_at w) e).0 refl

is_aligned-true : (b : Bool) (n : ℕ) → is_aligned b n ≡ true → IsTrue b → n % 512 ≡ 0
is_aligned-true true n aligned block = eqb-true (n % 512) 0 aligned
is_aligned-true false n aligned block = absurd (false≢true block)

leaf_at-tells : (level w : ℕ) (b : Bool) → level ≡ leaf_level b → Tells level w (leaf_at b w)
unfolding leaf_at
leaf_at-tells level w b at_level =
    let n : ℕ = page_at w in
    let p : Access = access_at w in
    either-entry (Tells level w) (is_aligned b n && (w == leaf_word_of b n p)) (Leaf n p) Wrong
    (λ e. let tests = both (is_aligned b n) (w == leaf_word_of b n p) e in
    record {
      block = b;
      at_level = at_level;
      in_range = page_at-lt w;
      aligned = is_aligned-true b n tests.0;
      legal = access_at-legal w;
      spelled = eqb-true w (leaf_word_of b n p) tests.1;
    })
    (λ _. tt)

entry_of-tells : (level w : ℕ) → Tells level w (entry_of level w)
unfolding entry_of
entry_of-tells level w =
    let n : ℕ = page_at w in
    either-entry (Tells level w) (w % 2 == 0) Invalid _ (eqb-true (w % 2) 0)
    (λ _. either-entry (Tells level w) (nat_lt level 3 && (w == table_word_of n)) (Table n) _
    (λ e. let tests = both (nat_lt level 3) (w == table_word_of n) e in
    record { at_level = ltb-true level 3 tests.0; in_range = page_at-lt w; spelled = eqb-true w (table_word_of n) tests.1 })
    (λ _. either-entry (Tells level w) (level == 2) (leaf_at true w) _ (λ e. leaf_at-tells level w true (eqb-true level 2 e))
    (λ _. either-entry (Tells level w) (level == 3) (leaf_at false w) Wrong (λ e. leaf_at-tells level w false (eqb-true level 3 e))
    (λ _. tt))))

-- the word that an entry was read from
pub word-invalid : (level w : ℕ) → entry_of level w ≡ Invalid → w % 2 ≡ 0
word-invalid level w read = subst (Tells level w) read (entry_of-tells level w)

pub word-table : (level w n : ℕ) → entry_of level w ≡ Table n → IsTableWord level w n
word-table level w n read = subst (Tells level w) read (entry_of-tells level w)

pub word-leaf : (level w n : ℕ) (p : Access) → entry_of level w ≡ Leaf n p → IsLeafWord level w n p
word-leaf level w n p read = subst (Tells level w) read (entry_of-tells level w)

-- the entry of a word that spells it
pub entry-invalid : (level w : ℕ) → w % 2 ≡ 0 → entry_of level w ≡ Invalid
unfolding entry_of
entry-invalid level w even = simp even

pub entry-table_word : (level w n : ℕ) → IsTableWord level w n → entry_of level w ≡ Table n
entry-table_word level w n table = ap (entry_of level) table.spelled ∙ entry-table level n table.at_level table.in_range

pub entry-leaf_word : (level w n : ℕ) (p : Access) → IsLeafWord level w n p → entry_of level w ≡ Leaf n p
entry-leaf_word level w n p leaf =
    ap (λ l. entry_of l w) leaf.at_level
    ∙ (ap (entry_of (leaf_level leaf.block)) leaf.spelled ∙ entry-leaf leaf.block n p leaf.in_range leaf.legal leaf.aligned)

-- the entry of a word is what the word spells
pub entry-spelled : (level w : ℕ) (e : Entry) → e ≡ entry_of level w → SpellsEntry level w e
unfolding SpellsEntry
entry-spelled level w Invalid read = word-invalid level w (sym read)
entry-spelled level w (Table n) read = word-table level w n (sym read)
entry-spelled level w (Leaf n p) read = word-leaf level w n p (sym read)
entry-spelled level w Wrong read = (
  λ even. let clash : Wrong ≡ Invalid = read ∙ entry-invalid level w even in cc,
  λ n table. let clash : Wrong ≡ Table n = read ∙ entry-table_word level w n table in cc,
  λ n p leaf. let clash : Wrong ≡ Leaf n p = read ∙ entry-leaf_word level w n p leaf in cc,
)

-- for the proof of the function that reads
pub ruleset spelled = (common_steps, entry-spelled)
