use Rattle.std.proofs.Common.{◌≡◌, ℕ, ◌+◌, ◌-◌, ◌/◌, ◌%◌, ◌<◌, ◌≤◌, ◌^◌, arith, sym, ◌∙◌, ap, inl, inr}
use Rattle.std.specs.Int.{bit_at, w64, trailing_zeros}
use Rattle.std.proofs.lemmas.Bool.{cases_lt}
use Rattle.std.proofs.lemmas.Nat.{shr-shr, shr_le}
use Rattle.std.proofs.lemmas.Nat.Bits.{bit_at-zero, bit_at-trailing_zeros, bit_at_above}
use Rattle.marks.specs.Tree.{IsLowestBit}
use Rattle.marks.proofs.word.lowest_from.Goals as goal

-- the bits of a word that is shifted down
bit_at-ahead : (word place i : ℕ) → place ≤ i → bit_at (word / 2 ^ place) (i - place) ≡ bit_at word i
bit_at-ahead word place i within =
    let is : place + (i - place) ≡ i = omega (arith, within) in
    ap (λ n. n % 2) (shr-shr word place (i - place) ∙ ap (λ k. word / 2 ^ k) is)

none-ahead : (word place : ℕ) → word / 2 ^ place ≡ 0 → (i : ℕ) → place ≤ i → bit_at word i ≡ 0
none-ahead word place zero i within = sym (bit_at-ahead word place i within) ∙ ap (λ n. bit_at n (i - place)) zero ∙ bit_at-zero (i - place)

lowest-ahead : (word place ahead : ℕ) → ahead ≡ word / 2 ^ place → 0 < ahead → word < 2 ^ 64 → IsLowestBit word place (place + trailing_zeros w64 ahead)
lowest-ahead word place ahead is some fits =
    let less = shr_le word place in
    let lowest = bit_at-trailing_zeros w64 ahead some (omega (arith, is, less, fits)) in
    let found = place + trailing_zeros w64 ahead in
    let off : found - place ≡ trailing_zeros w64 ahead = omega arith in
    let on : bit_at word found ≡ 1 = sym (bit_at-ahead word place found (omega arith)) ∙ ap (λ n. bit_at n (found - place)) (sym is) ∙ ap (bit_at ahead) off ∙ lowest.1 in
    record {
      from = omega arith;
      inside = elim (cases_lt found 64) [
        | inl below ↦ below
        | inr above ↦ let none = bit_at_above word 64 found fits above in absurd (omega (arith, none, on))
      ];
      on = on;
      before = λ i from below. sym (bit_at-ahead word place i from) ∙ ap (λ n. bit_at n (i - place)) (sym is) ∙ lowest.2 (i - place) (omega (arith, from, below));
    }

pub returns-then-ahead-eq0 : goal.returns-then-ahead-eq0
returns-then-ahead-eq0 c = λ i from below. none-ahead c.args.word c.args.place (sym (c.in_ok-ahead.ensures.1) ∙ c.if-ahead-eq0.true) i from

pub returns-else-ahead-eq0 : goal.returns-else-ahead-eq0
returns-else-ahead-eq0 c = lowest-ahead c.args.word c.args.place c.in_ok-ahead.ahead (c.in_ok-ahead.ensures.1) (omega (arith, c.if-ahead-eq0.false)) (omega (arith, c.ranges.word.fits))
