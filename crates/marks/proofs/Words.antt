-- One bit of the words is written.
use Rattle.std.proofs.Common.{◌≡◌, ◌≢◌, ℕ, ◌+◌, ◌-◌, ◌*◌, ◌/◌, ◌%◌, ◌<◌, Bool, true, false, ◌==◌, if◌then◌else◌, List, length, slice_index, slice_set, arith, inl, inr, ap, sym, ◌∙◌, refl}
use Rattle.std.proofs.lemmas.Bool.{cases_eq, cases_lt}
use Rattle.std.proofs.lemmas.Bool.Decides.{nat_tests}
use Rattle.std.proofs.lemmas.List.{get_or-set_same, get_or-set_other, get_or_past}
use Rattle.std.proofs.lemmas.Nat.Bits.{bit_at-zero}
use Rattle.std.specs.Int.{bit_at}
use Rattle.marks.specs.Tree.{bit_in, has_bits, IsSummed, IsSummedBut}

-- a word that is 0 has no bit
pub bit_in-zero : (words : List ℕ) (bit : ℕ) → slice_index words (bit / 64) ≡ 0 → bit_in words bit ≡ false
unfolding bit_in
bit_in-zero words bit zero = rw (zero, bit_at-zero (bit % 64)) refl

-- a bit that is set stands in a word
pub bit_in-inside : (words : List ℕ) (bit : ℕ) → bit_in words bit ≡ true → bit / 64 < length words
bit_in-inside words bit on = elim (cases_lt (bit / 64) (length words)) [
  | inl inside ↦ inside
  | inr past ↦ let off = bit_in-zero words bit (get_or_past words (bit / 64) 0 past) in absurd (cc)
]

-- nor does a word that is not 0 stand past them
pub has_bits-inside : (words : List ℕ) (w : ℕ) → has_bits (slice_index words w) ≡ true → w < length words
unfolding has_bits
has_bits-inside words w some = elim (cases_lt w (length words)) [
  | inl inside ↦ inside
  | inr past ↦ let zero : slice_index words w ≡ 0 = get_or_past words w 0 past in absurd (grind (arith, nat_tests, some, zero))
]

pub has_bits-some : (word : ℕ) → has_bits word ≡ true → 0 < word
unfolding has_bits
has_bits-some word some = grind (arith, nat_tests, some)

pub has_bits-none : (word : ℕ) → has_bits word ≡ false → word ≡ 0
unfolding has_bits
has_bits-none word none = grind (arith, nat_tests, none)

-- a bit of a word
pub bit_in-at : (words : List ℕ) (w i : ℕ) → i < 64 → bit_in words (64 * w + i) ≡ (bit_at (slice_index words w) i == 1)
unfolding bit_in
bit_in-at words w i inside =
    let quotient : (64 * w + i) / 64 ≡ w = omega arith in
    let rest : (64 * w + i) % 64 ≡ i = omega arith in
    rw (quotient, rest) refl

-- the words after one bit was written
pub record IsWritten (words : List ℕ) (bit : ℕ) (on : Bool) (after : List ℕ) : Type 0 where
  pub here : bit_in after bit ≡ on
  pub others : (x : ℕ) → x ≢ bit → bit_in after x ≡ bit_in words x
  pub apart : (w : ℕ) → w ≢ bit / 64 → slice_index after w ≡ slice_index words w

is-one : (on : Bool) → ((if on then 1 else 0) == 1) ≡ on
is-one true = refl
is-one false = refl

pub written : (words : List ℕ) (bit value : ℕ) (on : Bool) → bit / 64 < length words → bit_at value (bit % 64) ≡ (if on then 1 else 0)
    → ((i : ℕ) → i < 64 → i ≢ bit % 64 → bit_at value i ≡ bit_at (slice_index words (bit / 64)) i)
    → IsWritten words bit on (slice_set words (bit / 64) value)
unfolding bit_in
written words bit value on inside here others = record {
  here = rw (get_or-set_same, here) (is-one on);
  others = λ x differs. elim (cases_eq (x / 64) (bit / 64)) [
    | inl is ↦ rw (is, get_or-set_same words (bit / 64) value 0 inside, others (x % 64) (omega arith) (λ same. differs (omega arith))) refl
    | inr other ↦ rw get_or-set_other refl
  ];
  apart = λ w other. get_or-set_other words (bit / 64) w value 0 other;
}

-- the bit above a word still says whether that is 0, if this did not change
pub summed-done : (start bit : ℕ) (on : Bool) (words after : List ℕ) → IsWritten words bit on after → IsSummedBut start bit words
    → (bit < start → on ≡ has_bits (slice_index words (bit + 1)))
    → (0 < bit / 64 → has_bits (slice_index after (bit / 64)) ≡ has_bits (slice_index words (bit / 64)))
    → IsSummed start after
summed-done start bit on words after is summed right same = record {
  each = λ b below. elim (cases_eq b bit) [
    | inl here ↦ rw here (is.here ∙ right (omega arith) ∙ ap has_bits (sym (is.apart (bit + 1) (λ at. omega arith))))
    | inr other ↦ is.others b other ∙ summed.each b below other ∙ (elim (cases_eq (b + 1) (bit / 64)) [
      | inl at ↦ rw at (sym (same (omega arith)))
      | inr apart ↦ ap has_bits (sym (is.apart (b + 1) apart))
    ])
  ];
}

-- and otherwise all say so but that one
pub summed-on : (start bit : ℕ) (on : Bool) (words after : List ℕ) → IsWritten words bit on after → IsSummedBut start bit words
    → (bit < start → on ≡ has_bits (slice_index words (bit + 1)))
    → IsSummedBut start (bit / 64 - 1) after
summed-on start bit on words after is summed right = record {
  each = λ b below differs. elim (cases_eq b bit) [
    | inl here ↦ rw here (is.here ∙ right (omega arith) ∙ ap has_bits (sym (is.apart (bit + 1) (λ at. omega arith))))
    | inr other ↦ is.others b other ∙ summed.each b below other ∙ ap has_bits (sym (is.apart (b + 1) (λ at. differs (omega arith))))
  ];
}

-- a word that a bit did not turn is 0 as it was before
pub has_bits-same : (before after place : ℕ) (on : Bool) → ((if on then before else after) == 0) ≡ false → bit_at after place ≡ (if on then 1 else 0) → (on ≡ false → before ≡ 0 → after ≡ 0) → has_bits after ≡ has_bits before
unfolding has_bits
has_bits-same before after place true same here none =
    let some : after ≢ 0 = λ zero. let at = bit_at-zero place in omega (arith, here, ap (λ w. bit_at w place) zero, at) in
    grind (arith, nat_tests, same, some)
has_bits-same before after place false same here none = let zero = none refl in grind (arith, nat_tests, same, zero)

-- and one that it turned has bits where it was set
pub has_bits-on : (before after place : ℕ) (on : Bool) → ((if on then before else after) == 0) ≡ true → bit_at after place ≡ (if on then 1 else 0) → on ≡ has_bits after
unfolding has_bits
has_bits-on before after place true turned here =
    let some : after ≢ 0 = λ zero. let at = bit_at-zero place in omega (arith, here, ap (λ w. bit_at w place) zero, at) in
    grind (arith, nat_tests, some)
has_bits-on before after place false turned here = grind (arith, nat_tests, turned)
