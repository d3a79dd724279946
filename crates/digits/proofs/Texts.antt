-- Digits are UTF-8, whatever the number.
use Rattle.std.proofs.Common.{◌≡◌, ℕ, zero, suc, ◌+◌, ◌-◌, ◌*◌, ◌/◌, ◌%◌, ◌<◌, true, false, cond, eqb, ltb, List, [], ◌∷◌, codes, length, refl, subst, arith}
use Rattle.std.proofs.Math.ListN.{replicate}
use Rattle.std.specs.Fmt.{digits_onto, digits, digit_glyph, decimal}
use Rattle.std.specs.Str.{IsUtf8, IsAscii, is_utf8, chars}
use Rattle.std.proofs.lemmas.Str.{IsUtf8-append, IsUtf8-from_ascii, IsUtf8-from_is_utf8, IsAscii-append}
use Rattle.std.proofs.lemmas.Str.Ascii.{IsAscii-nil, IsAscii-cons}
use Rattle.base.specs.Pages.{PageRun}
use Rattle.digits.specs.Digits.{hex, extent_text}
use lib.Utf8.{encode}

glyph_ascii : (d : ℕ) → d < 16 → digit_glyph false d < 128
glyph_ascii d small = elim (ltb d 10) as (λ b. cond b (48 + d) (87 + d) < 128) [ true ↦ omega arith | false ↦ omega arith ]

onto_ascii : (k base n : ℕ) (acc : List ℕ) → ((m : ℕ) → m % base < 16) → IsAscii acc → IsAscii (digits_onto k base false n acc)
onto_ascii zero base n acc small so = so
onto_ascii (suc k) base n acc small so =
    let first : IsAscii (digit_glyph false (n % base) ∷ acc) = IsAscii-cons (digit_glyph false (n % base)) acc (glyph_ascii (n % base) (small n)) so in
    elim (eqb (n / base) 0) as (λ b. IsAscii (cond b (digit_glyph false (n % base) ∷ acc) (digits_onto k base false (n / base) (digit_glyph false (n % base) ∷ acc)))) [
      | true ↦ first
      | false ↦ onto_ascii k base (n / base) (digit_glyph false (n % base) ∷ acc) small first
    ]

zeros_ascii : (n : ℕ) → IsAscii (replicate n 48)
zeros_ascii zero = IsAscii-nil
zeros_ascii (suc n) = IsAscii-cons 48 (replicate n 48) (omega arith) (zeros_ascii n)

spelled : (base n : ℕ) → digits_onto 64 base false n [] ≡ digits base false n
unfolding digits
spelled base n = refl

digits_ascii : (base n : ℕ) → ((m : ℕ) → m % base < 16) → IsAscii (digits base false n)
digits_ascii base n small = subst IsAscii (spelled base n) (onto_ascii 64 base n [] small IsAscii-nil)

pub decimal_utf8 : (n : ℕ) → IsUtf8 (decimal n)
decimal_utf8 n = IsUtf8-from_ascii (decimal n) (digits_ascii 10 n (λ m. omega arith))

pub hex_utf8 : (w n : ℕ) → IsUtf8 (hex w n)
unfolding hex
hex_utf8 w n =
    let ds = digits 16 false n in
    IsUtf8-from_ascii (hex w n) (IsAscii-append (replicate (w - length ds) 48) ds (zeros_ascii (w - length ds)) (digits_ascii 16 n (λ m. omega arith)))

pub extent_utf8 : (run : PageRun) → IsUtf8 (extent_text run)
unfolding is_utf8 chars encode
extent_utf8 run = IsUtf8-append _ _ (IsUtf8-append _ _ (hex_utf8 10 (4096 * run.first)) (IsUtf8-from_is_utf8 (codes " ") refl)) (decimal_utf8 run.count)
