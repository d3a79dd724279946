-- The lengths of digits, and the digits of addresses.
use Rattle.std.proofs.Common.{◌≡◌, ℕ, zero, suc, ◌*◌, ◌/◌, ◌%◌, ◌^◌, ◌<◌, false, List, [], ◌∷◌, ◌++◌, codes, length, refl, sym, ap, ◌∙◌, append_assoc, arith}
use Rattle.std.specs.Fmt.{digit_glyph}
use Rattle.std.proofs.lemmas.List.{length_push}
use Rattle.digits.specs.Digits.{hex, address_text}
use Rattle.digits.proofs.HexDigits.{hex_fits, last_digits}
use borrow.Rule.Slice.PartMut.{put_mid}

pub last_length : (w n : ℕ) → length (last_digits w n) ≡ w
last_length zero n = refl
last_length (suc w) n = omega (arith, length_push (last_digits w (n / 16)) (digit_glyph false (n % 16)), last_length w (n / 16))

pub hex_length : (w n : ℕ) → 0 < w → n < 16 ^ w → n < 2 ^ 64 → length (hex w n) ≡ w
hex_length w n some fits small = ap (λ (ds : List ℕ). length ds) (hex_fits w n some fits small) ∙ last_length w n

pub page_length : (first : ℕ) → first < 2 ^ 27 → length (hex 7 first) ≡ 7
page_length first small = hex_length 7 first (omega arith) (omega arith) (omega arith)

-- sixteen times a number has one digit more, which is 0
zero_digit : (w m n : ℕ) → m ≡ 16 * n → last_digits (suc w) m ≡ last_digits w n ++ 48 ∷ []
zero_digit w m n e =
    let back : m / 16 ≡ n = omega (arith, e) in
    let none : m % 16 ≡ 0 = omega (arith, e) in
    ap (λ k. last_digits w k ++ digit_glyph false (m % 16) ∷ []) back
    ∙ ap (λ k. last_digits w n ++ digit_glyph false k ∷ []) none

-- an address has the digits of its page, and three zeros
pub address_digits : (first : ℕ) → first < 2 ^ 27 → hex 7 first ++ codes "000" ≡ address_text first
address_digits first small =
    let one : List ℕ = 48 ∷ [] in
    let page = last_digits 7 first in
    let spelled : last_digits 10 (4096 * first) ≡ page ++ one ++ one ++ one = zero_digit 9 (4096 * first) (256 * first) (omega arith) ∙ ap (λ t. t ++ one) (zero_digit 8 (256 * first) (16 * first) (omega arith) ∙ ap (λ t. t ++ one) (zero_digit 7 (16 * first) first refl)) in
    ap (λ t. t ++ codes "000") (hex_fits 7 first (omega arith) (omega arith) (omega arith))
    ∙ sym (hex_fits 10 (4096 * first) (omega arith) (omega arith) (omega arith) ∙ spelled ∙ append_assoc (page ++ one) one one ∙ append_assoc page one (one ++ one))

-- an address whose digits are filled in, and a space
pub filled_address : (first : ℕ) (page : List ℕ) → first < 2 ^ 27 → page ≡ hex 7 first → put_mid 0 7 (codes "0000000000 ") page ≡ address_text first ++ codes " "
filled_address first page small is =
    ap (λ a. a ++ codes "000 ") is ∙ sym (append_assoc (hex 7 first) (codes "000") (codes " ")) ∙ ap (λ a. a ++ codes " ") (address_digits first small)
