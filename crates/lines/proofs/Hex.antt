-- Two digits a byte, as the hex crate reads them.
use Rattle.std.proofs.Common.{◌≡◌, ℕ, ◌+◌, ◌*◌, ◌%◌, ◌<◌, ◌≤◌, true, false, ◌&&◌, cond, eqb, leb, List, [], ◌∷◌, length, Option, Some, None, Result, Ok, Err, refl, sym, ap, ◌∙◌, arith}
use Rattle.std.specs.Result.{result_ok}
use Rattle.std.proofs.lemmas.Bool.Decides.{nat_tests}
use borrow.Author.Tests.{eqb-true}
use Rattle.hex.specs.Hex.{decode_of, decode_pairs, digit_or_error, hex_digit_value}
use Rattle.hex.specs.Hex.{◌>>=◌ as ◌then◌}
use Rattle.hex.specs.declared.error.FromHexError.{FromHexError}
use Rattle.hex.specs.declared.error.FromHexError.TheVariants.{OddLength}
use Rattle.lines.specs.Grammar.{◌>>=◌, hex_of, copy_of}

-- a pair of digits, and the bytes after it
pair : (high low i : ℕ) (h l : Option ℕ) (r : Result (List ℕ) FromHexError) → result_ok ((digit_or_error high i h then (λ x. digit_or_error low (i + 1) l then (λ y. Ok (x * 16 + y)))) then (λ byte. r then (λ bytes. Ok (byte ∷ bytes)))) ≡ (h >>= λ x. l >>= λ y. result_ok r >>= λ bytes. Some ((x * 16 + y) ∷ bytes))
pair high low i None l r = refl
pair high low i (Some x) None r = refl
pair high low i (Some x) (Some y) (Ok bytes) = refl
pair high low i (Some x) (Some y) (Err e) = refl

pairs : (i : ℕ) (text : List ℕ) → result_ok (decode_pairs i text) ≡ hex_of text
unfolding decode_pairs
pairs i [] = refl
pairs i (digit ∷ []) = refl
pairs i (high ∷ low ∷ rest) =
    pair high low i (hex_digit_value high) (hex_digit_value low) (decode_pairs (i + 2) rest)
    ∙ ap (λ o. hex_digit_value high >>= λ x. hex_digit_value low >>= λ y. o >>= λ bytes. Some ((x * 16 + y) ∷ bytes)) (pairs (i + 2) rest)

abbrev nothing : Option (List ℕ)
nothing = None

no_bytes : (h l : Option ℕ) → (h >>= λ x. l >>= λ y. nothing >>= λ bytes. Some ((x * 16 + y) ∷ bytes)) ≡ None
no_bytes None l = refl
no_bytes (Some x) None = refl
no_bytes (Some x) (Some y) = refl

odd : (text : List ℕ) → length text % 2 ≡ 1 → hex_of text ≡ None
odd [] e = absurd (omega arith)
odd (digit ∷ []) e = refl
odd (high ∷ low ∷ rest) e =
    let less : length rest % 2 ≡ 1 = omega arith in
    ap (λ o. hex_digit_value high >>= λ x. hex_digit_value low >>= λ y. o >>= λ bytes. Some ((x * 16 + y) ∷ bytes)) (odd rest less)
    ∙ no_bytes (hex_digit_value high) (hex_digit_value low)

-- what is decoded is what the digits write
decoded : (text : List ℕ) → result_ok (decode_of text) ≡ hex_of text
decoded text =
    elim (eqb (length text % 2) 1) as (λ b. eqb (length text % 2) 1 ≡ b → result_ok (cond b (Err OddLength) (decode_pairs 0 text)) ≡ hex_of text) [
      | true ↦ λ e. sym (odd text (eqb-true _ _ e))
      | false ↦ λ e. pairs 0 text
    ] refl

some_byte : (h l : Option ℕ) (o : Option (List ℕ)) (bytes : List ℕ) → (h >>= λ x. l >>= λ y. o >>= λ rest. Some ((x * 16 + y) ∷ rest)) ≡ Some bytes → 1 ≤ length bytes
some_byte None l o bytes e = cc
some_byte (Some x) None o bytes e = cc
some_byte (Some x) (Some y) None bytes e = cc
some_byte (Some x) (Some y) (Some rest) [] e = cc
some_byte (Some x) (Some y) (Some rest) (b ∷ bs) e = omega arith

some_bytes : (text bytes : List ℕ) → 0 < length text → hex_of text ≡ Some bytes → 1 ≤ length bytes
some_bytes [] bytes some e = absurd (omega arith)
some_bytes (digit ∷ []) bytes some e = cc
some_bytes (high ∷ low ∷ rest) bytes some e = some_byte (hex_digit_value high) (hex_digit_value low) (hex_of rest) bytes e

within : List ℕ → Option (List ℕ)
within bytes = cond (leb 1 (length bytes) && leb (length bytes) 32768) (Some bytes) None

-- a copy that is read
pub copied : (text bytes : List ℕ) → 0 < length text → decode_of text ≡ Ok bytes → length bytes ≤ 32768 → Some bytes ≡ copy_of text
unfolding within
copied text bytes some e few =
    let read : hex_of text ≡ Some bytes = sym (decoded text) ∙ ap result_ok e in
    let enough : 1 ≤ length bytes = some_bytes text bytes some read in
    let is : (leb 1 (length bytes) && leb (length bytes) 32768) ≡ true = grind (arith, nat_tests) in
    sym (ap (λ o. o >>= within) read ∙ ap (λ b. cond b (Some bytes) None) is)

-- a copy that is too long
pub copy_long : (text bytes : List ℕ) → decode_of text ≡ Ok bytes → 32768 < length bytes → None ≡ copy_of text
unfolding within
copy_long text bytes e many =
    let read : hex_of text ≡ Some bytes = sym (decoded text) ∙ ap result_ok e in
    let is : (leb 1 (length bytes) && leb (length bytes) 32768) ≡ false = grind (arith, nat_tests) in
    sym (ap (λ o. o >>= within) read ∙ ap (λ b. cond b (Some bytes) None) is)

-- what is no copy
pub copy_bad : (text : List ℕ) (e : FromHexError) → decode_of text ≡ Err e → None ≡ copy_of text
unfolding within
copy_bad text e is = sym (ap (λ o. o >>= within) (sym (decoded text) ∙ ap result_ok is))
