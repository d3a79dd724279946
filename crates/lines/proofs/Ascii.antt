-- What spells a line is ASCII.
use Rattle.std.proofs.Common.{◌≡◌, ℕ, suc, ◌-◌, ◌*◌, ◌^◌, ◌<◌, ◌≤◌, Bool, true, false, ◌&&◌, cond, not, eqb, ltb, leb, List, [], ◌∷◌, length, get_or, Option, Some, None, option_map, codes, bytes_eq, refl, sym, subst, arith}
use Rattle.std.specs.List.{AllByRecursion, list_all, onto_first, position_or_len, before_first, after_first}
use Rattle.std.specs.Str.{IsAscii, IsUtf8}
use Rattle.std.specs.Str.Parse.{digits_value}
use Rattle.std.proofs.lemmas.Str.{IsAscii-append, IsUtf8-from_ascii}
use Rattle.std.proofs.lemmas.Str.Ascii.{IsAscii-nil, IsAscii-cons}
use Rattle.std.proofs.lemmas.Slice.Eq.{bytes_eq-Decides}
use Rattle.std.proofs.lemmas.List.Sums.{split_at_first, passes_at_first}
use Rattle.std.proofs.lemmas.Bool.Decides.{nat_tests}
use borrow.Author.Tests.{eqb-true, ltb-true, leb-true}
use Rattle.hex.specs.Hex.{hex_digit_value}
use Rattle.base.specs.Descriptors.Send.{Endpoint}
use Rattle.base.specs.Descriptors.Encoding.{RangeFields, RetrieveFields, RelinquishFields}
use Rattle.base.proofs.Booleans.{both}
use Rattle.lines.specs.declared.send.ReclaimLine.{ReclaimLine}
use Rattle.lines.specs.Lines.{is_lower_hex_digit, is_digit, has_leading_zero, number_of, id_of, permissions_of, count_of}
use Rattle.lines.specs.Said.{Said, SaidSend}
use Rattle.lines.specs.Grammar.{◌>>=◌, parted_by, halves_at, each, one_to, last_word, hex_of, copy_of, receiver_of, receivers_of, range_of, ranges_of, total_of, type_of, registers_of, tx_of, call_of, send_of, retrieve_of, relinquish_of, reclaim_of, only_id, only, named, line_of_words}

-- ---- what a part that was read says of its steps

kept : {A : Type 0} (b : Bool) (o : Option A) (y : A) → cond b o None ≡ Some y → (b ≡ true) × (o ≡ Some y)
kept true o y e = (refl, e)
kept false o y e = absurd cc

step : {A B : Type 0} (o : Option A) (f : A → Option B) (y : B) → (o >>= f) ≡ Some y → (x : A) × (o ≡ Some x) × (f x ≡ Some y)
step None f y e = absurd cc
step (Some x) f y e = (x, refl, e)

mapped : {A B : Type 0} (f : A → B) (o : Option A) (y : B) → option_map f o ≡ Some y → (x : A) × (o ≡ Some x)
mapped f None y e = absurd cc
mapped f (Some x) y e = (x, refl)

-- ---- words

ascii_by : (test : ℕ → Bool) → ((c : ℕ) → test c ≡ true → c < 128) → (ds : List ℕ) → list_all test ds ≡ true → IsAscii ds
ascii_by test low [] e = IsAscii-nil
ascii_by test low (c ∷ cs) e = let b = both (test c) (list_all test cs) e in IsAscii-cons c cs (low c b.0) (ascii_by test low cs b.1)

low_hex : (c : ℕ) → is_lower_hex_digit c ≡ true → c < 128
low_hex c e = grind (arith, nat_tests)

low_digit : (c : ℕ) → is_digit c ≡ true → c < 128
low_digit c e = grind (arith, nat_tests)

low_any : (c v : ℕ) → hex_digit_value c ≡ Some v → c < 128
low_any c v e = grind (arith, nat_tests)

literal : (ds : List ℕ) → list_all (λ c. ltb c 128) ds ≡ true → IsAscii ds
literal ds e = ascii_by (λ c. ltb c 128) (λ c l. ltb-true c 128 l) ds e

same_text : (word name : List ℕ) → bytes_eq word name ≡ true → IsAscii name → IsAscii word
same_text word name e h = subst IsAscii (sym ((bytes_eq-Decides word name).0 e)) h

ascii_number : (word : List ℕ) (n : ℕ) → number_of word ≡ Some n → IsAscii word
ascii_number word n e =
    let few = leb 1 (length word) && leb (length word) 16 in
    let digits = list_all is_lower_hex_digit word in
    let k = kept (few && digits) (Some (digits_value 16 word)) n e in
    ascii_by is_lower_hex_digit low_hex word (both few digits k.0).1

ascii_id : (word : List ℕ) (n : ℕ) → id_of word ≡ Some n → IsAscii word
ascii_id word n e = let k = kept _ _ n e in ascii_by is_lower_hex_digit low_hex word (both _ _ k.0).1

ascii_permissions : (word : List ℕ) (n : ℕ) → permissions_of word ≡ Some n → IsAscii word
ascii_permissions word n e = let k = kept _ _ n e in ascii_by is_lower_hex_digit low_hex word (both _ _ k.0).1

ascii_count : (word : List ℕ) (n : ℕ) → count_of word ≡ Some n → IsAscii word
ascii_count word n e =
    let digits = leb 1 (length word) && list_all is_digit word in
    let plain = digits && not (has_leading_zero word) in
    let small = ltb (digits_value 10 word) (2 ^ 32) in
    let k = kept (plain && small) (Some (digits_value 10 word)) n e in
    let is_plain = (both plain small k.0).0 in
    let is_digits = (both digits (not (has_leading_zero word)) is_plain).0 in
    ascii_by is_digit low_digit word (both (leb 1 (length word)) (list_all is_digit word) is_digits).1

ascii_type : (word : List ℕ) (n : ℕ) → type_of word ≡ Some n → IsAscii word
ascii_type [] n e = absurd cc
ascii_type (digit ∷ []) n e =
    let k = kept (leb 48 digit && leb digit 51) (Some (8 * (digit - 48))) n e in
    let below : digit ≤ 51 = leb-true digit 51 (both (leb 48 digit) (leb digit 51) k.0).1 in
    IsAscii-cons digit [] (omega arith) IsAscii-nil
ascii_type (digit ∷ next ∷ more) n e = absurd cc

ascii_last : (name : List ℕ) → IsAscii name → (words : List (List ℕ)) (b : Bool) → last_word name words ≡ Some b → AllByRecursion IsAscii words
ascii_last name h [] b e = tt
ascii_last name h (word ∷ []) b e = (same_text word name (kept _ _ b e).0 h, tt)
ascii_last name h (word ∷ next ∷ more) b e = absurd cc

ascii_hex : (text bytes : List ℕ) → hex_of text ≡ Some bytes → IsAscii text
ascii_hex [] bytes e = IsAscii-nil
ascii_hex (digit ∷ []) bytes e = absurd cc
ascii_hex (high ∷ low ∷ rest) bytes e =
    let h = step (hex_digit_value high) _ _ e in
    let l = step (hex_digit_value low) _ _ h.2 in
    let r = step (hex_of rest) _ _ l.2 in
    IsAscii-cons high (low ∷ rest) (low_any high h.0 h.1) (IsAscii-cons low rest (low_any low l.0 l.1) (ascii_hex rest r.0 r.1))

-- ---- parted texts

ascii_halves : (byte : ℕ) → byte < 128 → (text : List ℕ) (halves : List ℕ × List ℕ) → halves_at byte text ≡ Some halves → IsAscii halves.0 → IsAscii halves.1 → IsAscii text
ascii_halves byte low text halves e front back =
    let p = λ (b : ℕ). eqb b byte in
    let k = kept _ _ halves e in
    let within : position_or_len p text < length text = ltb-true _ _ k.0 in
    let at : get_or text (position_or_len p text) 0 ≡ byte = eqb-true _ byte (passes_at_first p text 0 within) in
    let before : before_first p text ≡ halves.0 = let q = k.1 in cc in
    let after : after_first p text ≡ halves.1 = let q = k.1 in cc in
    subst IsAscii (sym (split_at_first p text 0 within))
    (IsAscii-append (before_first p text) (get_or text (position_or_len p text) 0 ∷ after_first p text) (subst IsAscii (sym before) front)
    (IsAscii-cons (get_or text (position_or_len p text) 0) (after_first p text) (omega arith) (subst IsAscii (sym after) back)))

onto : (x : ℕ) (parts : List (List ℕ)) → AllByRecursion IsAscii (onto_first x parts) → (x < 128) × AllByRecursion IsAscii parts
onto x [] h = (h.0 0, tt)
onto x (part ∷ parts) h = (h.0 0, (λ i. h.0 (suc i), h.1))

ascii_parts : (byte : ℕ) → byte < 128 → (text : List ℕ) → AllByRecursion IsAscii (parted_by byte text) → IsAscii text
ascii_parts byte low [] h = IsAscii-nil
ascii_parts byte low (x ∷ xs) h =
    elim (eqb x byte) as (λ b. eqb x byte ≡ b → AllByRecursion IsAscii (cond b ([] ∷ parted_by byte xs) (onto_first x (parted_by byte xs))) → IsAscii (x ∷ xs)) [
      | true ↦ λ e k. let same = eqb-true x byte e in IsAscii-cons x xs (omega arith) (ascii_parts byte low xs k.1)
      | false ↦ λ e k. let o = onto x (parted_by byte xs) k in IsAscii-cons x xs o.0 (ascii_parts byte low xs o.1)
    ] refl h

ascii_each : {A : Type 0} (read : List ℕ → Option A) → ((word : List ℕ) (a : A) → read word ≡ Some a → IsAscii word) → (words : List (List ℕ)) (as_read : List A) → each read words ≡ Some as_read → AllByRecursion IsAscii words
ascii_each read ok [] as_read e = tt
ascii_each read ok (word ∷ words) as_read e =
    let first = step (read word) _ _ e in
    let rest = step (each read words) _ _ first.2 in
    (ok word first.0 first.1, ascii_each read ok words rest.0 rest.1)

ascii_one_to : {A : Type 0} (most : ℕ) (read : List ℕ → Option A) → ((word : List ℕ) (a : A) → read word ≡ Some a → IsAscii word) → (words : List (List ℕ)) (as_read : List A) → one_to most read words ≡ Some as_read → AllByRecursion IsAscii words
ascii_one_to most read ok words as_read e = ascii_each read ok words as_read (kept _ _ as_read e).1

ascii_receiver : (word : List ℕ) (receiver : Endpoint) → receiver_of word ≡ Some receiver → IsAscii word
ascii_receiver word receiver e =
    let halves = step (halves_at 58 word) _ _ e in
    let id = step (id_of halves.0.0) _ _ halves.2 in
    let permissions = step (permissions_of halves.0.1) _ _ id.2 in
    ascii_halves 58 (omega arith) word halves.0 halves.1 (ascii_id _ id.0 id.1) (ascii_permissions _ permissions.0 permissions.1)

ascii_range : (word : List ℕ) (range : RangeFields) → range_of word ≡ Some range → IsAscii word
ascii_range word range e =
    let halves = step (halves_at 43 word) _ _ e in
    let address = step (number_of halves.0.0) _ _ halves.2 in
    let count = step (count_of halves.0.1) _ _ address.2 in
    ascii_halves 43 (omega arith) word halves.0 halves.1 (ascii_number _ address.0 address.1) (ascii_count _ count.0 count.1)

ascii_receivers : (word : List ℕ) (receivers : List Endpoint) → receivers_of word ≡ Some receivers → IsAscii word
ascii_receivers word receivers e = ascii_parts 44 (omega arith) word (ascii_one_to 8 receiver_of ascii_receiver (parted_by 44 word) receivers e)

ascii_ranges : (word : List ℕ) (ranges : List RangeFields) → ranges_of word ≡ Some ranges → IsAscii word
ascii_ranges word ranges e = ascii_parts 44 (omega arith) word (ascii_one_to 512 range_of ascii_range (parted_by 44 word) ranges e)

-- ---- the words after a name

ascii_copy : (word bytes : List ℕ) → copy_of word ≡ Some bytes → IsAscii word
ascii_copy word bytes e = let read = step (hex_of word) _ _ e in ascii_hex word read.0 read.1

ascii_tx : (words : List (List ℕ)) (line : Said) → tx_of words ≡ Some line → AllByRecursion IsAscii words
ascii_tx [] line e = absurd cc
ascii_tx (id ∷ []) line e = let p = step (id_of id) _ _ e in (ascii_id id p.0 p.1, tt)
ascii_tx (id ∷ hex ∷ []) line e =
    let p = step (id_of id) _ _ e in
    let bytes = step (copy_of hex) _ _ p.2 in
    (ascii_id id p.0 p.1, (ascii_copy hex bytes.0 bytes.1, tt))
ascii_tx (id ∷ hex ∷ next ∷ more) line e = absurd cc

ascii_call : (words : List (List ℕ)) (line : Said) → call_of words ≡ Some line → AllByRecursion IsAscii words
ascii_call [] line e = absurd cc
ascii_call (id ∷ numbers) line e =
    let p = step (id_of id) _ _ e in
    let registers = step (registers_of numbers) _ _ p.2 in
    let read = step (one_to 8 number_of numbers) _ _ registers.1 in
    (ascii_id id p.0 p.1, ascii_one_to 8 number_of ascii_number numbers read.0 read.1)

zero : IsAscii (codes "zero")
zero = literal (codes "zero") refl

ascii_send : (words : List (List ℕ)) (send : SaidSend) → send_of words ≡ Some send → AllByRecursion IsAscii words
ascii_send (id ∷ number ∷ endpoints ∷ pages ∷ last) send e =
    let ranges = step (ranges_of pages) _ _ e in
    let p = step (id_of id) _ _ ranges.2 in
    let tag = step (number_of number) _ _ p.2 in
    let receivers = step (receivers_of endpoints) _ _ tag.2 in
    let total = step (total_of ranges.0) _ _ receivers.2 in
    let clears = step (last_word (codes "zero") last) _ _ total.2 in
    (ascii_id id p.0 p.1, (ascii_number number tag.0 tag.1, (ascii_receivers endpoints receivers.0 receivers.1, (ascii_ranges pages ranges.0 ranges.1, ascii_last (codes "zero") zero last clears.0 clears.1))))
ascii_send words send e = absurd cc

ascii_retrieve : (words : List (List ℕ)) (fields : RetrieveFields) → retrieve_of words ≡ Some fields → AllByRecursion IsAscii words
ascii_retrieve (id ∷ number ∷ owner ∷ label ∷ digit ∷ rights ∷ last) fields e =
    let p = step (id_of id) _ _ e in
    let handle = step (number_of number) _ _ p.2 in
    let sender = step (id_of owner) _ _ handle.2 in
    let tag = step (number_of label) _ _ sender.2 in
    let kind = step (type_of digit) _ _ tag.2 in
    let permissions = step (permissions_of rights) _ _ kind.2 in
    let alone = step (last_word (codes "alone") last) _ _ permissions.2 in (
      ascii_id id p.0 p.1,
      (
        ascii_number number handle.0 handle.1,
        (
          ascii_id owner sender.0 sender.1,
          (
            ascii_number label tag.0 tag.1,
            (
              ascii_type digit kind.0 kind.1,
              (
                ascii_permissions rights permissions.0 permissions.1,
                ascii_last (codes "alone") (literal (codes "alone") refl) last alone.0 alone.1,
              ),
            ),
          ),
        ),
      ),
    )
ascii_retrieve words fields e = absurd cc

ascii_relinquish : (words : List (List ℕ)) (fields : RelinquishFields) → relinquish_of words ≡ Some fields → AllByRecursion IsAscii words
ascii_relinquish (id ∷ number ∷ last) fields e =
    let p = step (id_of id) _ _ e in
    let handle = step (number_of number) _ _ p.2 in
    let clears = step (last_word (codes "zero") last) _ _ handle.2 in
    (ascii_id id p.0 p.1, (ascii_number number handle.0 handle.1, ascii_last (codes "zero") zero last clears.0 clears.1))
ascii_relinquish words fields e = absurd cc

ascii_reclaim : (words : List (List ℕ)) (reclaim : ReclaimLine) → reclaim_of words ≡ Some reclaim → AllByRecursion IsAscii words
ascii_reclaim (id ∷ number ∷ last) reclaim e =
    let p = step (id_of id) _ _ e in
    let handle = step (number_of number) _ _ p.2 in
    let clears = step (last_word (codes "zero") last) _ _ handle.2 in
    (ascii_id id p.0 p.1, (ascii_number number handle.0 handle.1, ascii_last (codes "zero") zero last clears.0 clears.1))
ascii_reclaim words reclaim e = absurd cc

ascii_only_id : (words : List (List ℕ)) (id : ℕ) → only_id words ≡ Some id → AllByRecursion IsAscii words
ascii_only_id [] id e = absurd cc
ascii_only_id (word ∷ []) id e = (ascii_id word id e, tt)
ascii_only_id (word ∷ next ∷ more) id e = absurd cc

ascii_only : (says : Said) (words : List (List ℕ)) (line : Said) → only says words ≡ Some line → AllByRecursion IsAscii words
ascii_only says [] line e = tt
ascii_only says (word ∷ more) line e = absurd cc

-- ---- lines

-- one name more: where it stands, the words after it are ASCII
case : (line : Said) (name words : _) (this : List ℕ) → IsAscii this → (a b : Option Said) → (a ≡ Some line → AllByRecursion IsAscii words) → (b ≡ Some line → AllByRecursion IsAscii (name ∷ words)) → cond (bytes_eq name this) a b ≡ Some line → AllByRecursion IsAscii (name ∷ words)
case line name words this h a b here there e =
    elim (bytes_eq name this) as (λ t. bytes_eq name this ≡ t → cond t a b ≡ Some line → AllByRecursion IsAscii (name ∷ words)) [
      | true ↦ λ same k. (same_text name this same h, here k)
      | false ↦ λ other k. there k
    ] refl e

ascii_named : (name : List ℕ) (words : List (List ℕ)) (line : Said) → named name words ≡ Some line → AllByRecursion IsAscii (name ∷ words)
ascii_named name words line =
    case line name words (codes "tx") (literal (codes "tx") refl) _ _ (ascii_tx words line)
    (case line name words (codes "call") (literal (codes "call") refl) _ _ (ascii_call words line)
    (case line name words (codes "share") (literal (codes "share") refl) _ _ (λ k. let m = mapped _ _ _ k in ascii_send words m.0 m.1)
    (case line name words (codes "lend") (literal (codes "lend") refl) _ _ (λ k. let m = mapped _ _ _ k in ascii_send words m.0 m.1)
    (case line name words (codes "donate") (literal (codes "donate") refl) _ _ (λ k. let m = mapped _ _ _ k in ascii_send words m.0 m.1)
    (case line name words (codes "retrieve") (literal (codes "retrieve") refl) _ _ (λ k. let m = mapped _ _ _ k in ascii_retrieve words m.0 m.1)
    (case line name words (codes "relinquish") (literal (codes "relinquish") refl) _ _ (λ k. let m = mapped _ _ _ k in ascii_relinquish words m.0 m.1)
    (case line name words (codes "reclaim") (literal (codes "reclaim") refl) _ _ (λ k. let m = mapped _ _ _ k in ascii_reclaim words m.0 m.1)
    (case line name words (codes "maps") (literal (codes "maps") refl) _ _ (λ k. let m = mapped _ _ _ k in ascii_only_id words m.0 m.1)
    (case line name words (codes "tables") (literal (codes "tables") refl) _ _ (λ k. let m = mapped _ _ _ k in ascii_only_id words m.0 m.1)
    (case line name words (codes "owners") (literal (codes "owners") refl) _ _ (ascii_only _ words line)
    (case line name words (codes "ops") (literal (codes "ops") refl) _ _ (ascii_only _ words line)
    (case line name words (codes "audit") (literal (codes "audit") refl) _ _ (ascii_only _ words line) (λ k. absurd cc)))))))))))))

ascii_line : (words : List (List ℕ)) (line : Said) → line_of_words words ≡ Some line → AllByRecursion IsAscii words
ascii_line [] line e = tt
ascii_line (name ∷ words) line e = ascii_named name words line e

-- bytes that are no text are no line's
pub no_text : (bytes : List ℕ) → (IsUtf8 bytes → ⊥) → line_of_words (parted_by 32 bytes) ≡ None
no_text bytes bad =
    elim (line_of_words (parted_by 32 bytes)) as (λ o. line_of_words (parted_by 32 bytes) ≡ o → o ≡ None) [
      | None ↦ λ e. refl
      | Some line ↦ λ e. absurd (bad (IsUtf8-from_ascii bytes (ascii_parts 32 (omega arith) bytes (ascii_line (parted_by 32 bytes) line e))))
    ] refl

-- and a name that is none is no line's
pub no_name : (name : List ℕ) (words : List (List ℕ)) → (IsUtf8 name → ⊥) → None ≡ named name words
no_name name words bad =
    elim (named name words) as (λ o. named name words ≡ o → None ≡ o) [
      | None ↦ λ e. refl
      | Some line ↦ λ e. absurd (bad (IsUtf8-from_ascii name (ascii_named name words line e).0))
    ] refl
