-- A word that has a form of its level is told by its type alone.
use Rattle.std.proofs.Common.{◌≡◌, ◌≢◌, ℕ, ◌%◌, ◌<◌, Bool, true, false, arith, refl, sym, ap, ap₂, ◌∙◌}
use Rattle.words.specs.declared.word.Entry.{Entry}
use Rattle.words.specs.declared.word.Entry.TheVariants.{Invalid, Table, Leaf, Wrong}
use Rattle.words.specs.Words.{page_at, access_at, leaf_level, leaf_word_of, type_bits, entry_of}
use Rattle.words.proofs.RoundTrip.{type-leaf, type-table, page_at-table, page_at-leaf, access_at-leaf, word-invalid, word-table, word-leaf, entry-invalid}

-- the type of a leaf at level 2 is 1
type-low : (level w n : ℕ) (block : Bool) (kind : ℕ) → level ≡ leaf_level block → kind ≡ type_bits block → level < 3 → kind ≡ 1
type-low level w n true kind at is low = is
type-low level w n false kind at is low = absurd (omega (arith, at, low))

pub known-invalid : (level w : ℕ) → w % 2 ≡ 0 → Invalid ≡ entry_of level w
known-invalid level w even = sym (entry-invalid level w even)

pub known-table : (level w : ℕ) → entry_of level w ≢ Wrong → level < 3 → w % 4 ≡ 3 → Table (page_at w) ≡ entry_of level w
known-table level w known low kind = by-entry (entry_of level w) refl
  where
    by-entry : (e : Entry) → entry_of level w ≡ e → Table (page_at w) ≡ entry_of level w
    by-entry Invalid is = let even = word-invalid level w is in absurd (omega (arith, even, kind))
    by-entry (Table n) is = let t = word-table level w n is in ap (λ x. Table (page_at x)) t.spelled ∙ ap Table (page_at-table n t.in_range) ∙ sym is
    by-entry (Leaf n p) is =
        let leaf = word-leaf level w n p is in
        let one = type-low level w n leaf.block (leaf_word_of leaf.block n p % 4) leaf.at_level (type-leaf leaf.block n p leaf.legal) low in
        let same : w % 4 ≡ leaf_word_of leaf.block n p % 4 = ap (λ x. x % 4) leaf.spelled in
        absurd (omega (arith, one, same, kind))
    by-entry Wrong is = absurd (known is)

pub known-leaf : (level w : ℕ) → entry_of level w ≢ Wrong → w % 2 ≢ 0 → (level < 3 → w % 4 ≢ 3) → Leaf (page_at w) (access_at w) ≡ entry_of level w
known-leaf level w known odd kind = by-entry (entry_of level w) refl
  where
    by-entry : (e : Entry) → entry_of level w ≡ e → Leaf (page_at w) (access_at w) ≡ entry_of level w
    by-entry Invalid is = absurd (odd (word-invalid level w is))
    by-entry (Table n) is =
        let t = word-table level w n is in
        let three : w % 4 ≡ 3 = ap (λ x. x % 4) t.spelled ∙ type-table n in
        absurd (kind t.at_level three)
    by-entry (Leaf n p) is =
        let leaf = word-leaf level w n p is in
        ap₂ Leaf (ap page_at leaf.spelled ∙ page_at-leaf leaf.block n p leaf.in_range leaf.legal) (ap access_at leaf.spelled ∙ access_at-leaf leaf.block n p leaf.in_range leaf.legal)
        ∙ sym is
    by-entry Wrong is = absurd (known is)

-- for the proof of the function that reads such a word
pub ruleset known = (known-invalid, known-table, known-leaf)
