use Rattle.std.proofs.Common.{◌≡◌, ℕ, ◌+◌, ◌<◌, ◌^◌, List, length, slice_index, true, arith, sym, ◌∙◌, refl}
use Rattle.std.specs.Int.{w64, trailing_zeros}
use Rattle.std.proofs.lemmas.Nat.{trailing_le}
use Rattle.std.proofs.lemmas.Nat.Bits.{bit_at-trailing_zeros}
use Rattle.marks.specs.Tree.{bit_in, IsLowestBit, IsSummed}
use Rattle.marks.proofs.Words.{bit_in-at, bit_in-inside, has_bits-inside, has_bits-some}
use Rattle.marks.proofs.Search.{first-last, first-child, none-in_word}
use Rattle.marks.proofs.tree.+first_below.Goals as goal

inside : (words : List ℕ) (start bit : ℕ) → IsSummed start words → bit_in words bit ≡ true → bit < start → bit + 1 < length words
inside words start bit summed on before = has_bits-inside words (bit + 1) (sym (summed.each bit before) ∙ on)

-- the lowest bit of the word of a bit that is set
lowest : (words : List ℕ) (start bit : ℕ) → IsSummed start words → bit_in words bit ≡ true → bit < start → slice_index words (bit + 1) < 2 ^ 64 → IsLowestBit (slice_index words (bit + 1)) 0 (trailing_zeros w64 (slice_index words (bit + 1)))
lowest words start bit summed on before fits =
    let is = bit_at-trailing_zeros w64 (slice_index words (bit + 1)) (has_bits-some _ (sym (summed.each bit before) ∙ on)) fits in
    record { from = omega arith; inside = is.0; on = is.1; before = λ i from below. is.2 i below }

pub returns-then-bit-start : goal.returns-then-bit-start
returns-then-bit-start t c = λ level height is place. first-last c.args.words.now c.args.start c.args.bit level height is place c.if-bit-start.true c.requires.on

pub offset_bounds-words-word : goal.offset_bounds-words-word
offset_bounds-words-word t c = omega (arith, c.requires.small, inside c.args.words.now c.args.start c.args.bit c.requires.summed c.requires.on c.if-bit-start.false)

pub bounds-words-word : goal.bounds-words-word
bounds-words-word t c = inside c.args.words.now c.args.start c.args.bit c.requires.summed c.requires.on c.if-bit-start.false

pub overflow_mul-word : goal.overflow_mul-word
overflow_mul-word t c = omega (arith, c.requires.small, inside c.args.words.now c.args.start c.args.bit c.requires.summed c.requires.on c.if-bit-start.false)

pub overflow_add-word-2 : goal.overflow_add-word-2
overflow_add-word-2 t c = omega (arith, c.requires.small, inside c.args.words.now c.args.start c.args.bit c.requires.summed c.requires.on c.if-bit-start.false, trailing_le 64 (slice_index c.args.words.now (c.args.bit + 1)))

pub first_below-requires : goal.first_below-requires
first_below-requires t c =
    let words = c.args.words.now in
    let within = bit_in-inside words c.args.bit c.requires.on in
    let fits : slice_index words (c.args.bit + 1) < 2 ^ 64 = omega (arith, c.type_inv.words (c.args.bit + 1)) in
    let bit = lowest words c.args.start c.args.bit c.requires.summed c.requires.on c.if-bit-start.false fits in
    (omega (arith, within), (c.requires.small, (c.requires.summed, bit_in-at words (c.args.bit + 1) _ bit.inside ∙ rw bit.on refl)))

pub returns : goal.returns
returns t c = λ level height is place.
    let words = c.args.words.now in
    let fits : slice_index words (c.args.bit + 1) < 2 ^ 64 = omega (arith, c.type_inv.words (c.args.bit + 1)) in
    let bit = lowest words c.args.start c.args.bit c.requires.summed c.requires.on c.if-bit-start.false fits in
    let lowest = trailing_zeros w64 (slice_index words (c.args.bit + 1)) in
    first-child words c.args.start c.args.bit lowest c.first_below.result level height c.requires.summed is place c.if-bit-start.false bit.inside
    (λ x above below. none-in_word words (c.args.bit + 1) 0 lowest (omega (arith, bit.inside)) bit.before x (omega (arith, above)) below)
    c.first_below.ensures
