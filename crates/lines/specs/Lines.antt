-- The parts of script lines.
use Rattle.std.specs.Prelude.{◌≡◌, ℕ, ◌≤◌, ◌^◌, Bool, true, not, ◌&&◌, ◌||◌, ◌==◌, nat_le, nat_lt, slice_index, sum_by, IsTrue, List, [], ◌∷◌, length, map, Option, Some, None, if◌then◌else◌}
use Rattle.std.specs.Borrow.{Bor}
use Rattle.std.specs.List.{list_all}
use Rattle.std.specs.Str.{byte}
use Rattle.std.specs.Str.Parse.{digits_value}
use Rattle.base.specs.Descriptors.Send.{are_clear_flags}
use Rattle.lines.specs.declared.line.Line.{Line}
use Rattle.lines.specs.declared.line.Line.TheVariants.{Nothing, Tx, Call, Send, Retrieve, Relinquish, Reclaim, Maps, Tables, Owners, Operations, Audit}
use Rattle.lines.specs.declared.send.SendLine.{SendLine}

-- 0 to 9 and a to f
abbrev pub is_lower_hex_digit : ℕ → Bool
is_lower_hex_digit byte = (nat_le 48 byte && nat_le byte 57) || (nat_le 97 byte && nat_le byte 102)

-- 0 to 9
abbrev pub is_digit : ℕ → Bool
is_digit byte = nat_le 48 byte && nat_le byte 57

-- the number that 1 to 16 lower-case hexadecimal digits write
abbrev pub number_of : List ℕ → Option ℕ
number_of word =
    if nat_le 1 (length word) && nat_le (length word) 16 && list_all is_lower_hex_digit word
    then Some (digits_value 16 word) else None

-- the identifier that four lower-case hexadecimal digits write
abbrev pub id_of : List ℕ → Option ℕ
id_of word =
    if (length word == 4) && list_all is_lower_hex_digit word then Some (digits_value 16 word)
    else None

-- the permissions that two lower-case hexadecimal digits write
abbrev pub permissions_of : List ℕ → Option ℕ
permissions_of word =
    if (length word == 2) && list_all is_lower_hex_digit word then Some (digits_value 16 word)
    else None

-- a zero stands first, and not alone
abbrev pub has_leading_zero : List ℕ → Bool
has_leading_zero word = nat_lt 1 (length word) && (slice_index word 0 == byte "0")

-- the number below 2^32 that decimal digits without a leading zero write
abbrev pub count_of : List ℕ → Option ℕ
count_of word =
    if nat_le 1 (length word) && list_all is_digit word && not (has_leading_zero word)
    && nat_lt (digits_value 10 word) (2 ^ 32)
    then Some (digits_value 10 word) else None

-- what the words write
abbrev pub texts : List (Bor (List ℕ)) → List (List ℕ)
texts words = map (λ word. word.now) words

-- the total is the sum of the ranges' counts, and there are at most 512 ranges
abbrev pub IsWhole : SendLine → Type 0
IsWhole send =
    (send.total ≡ sum_by (λ r. r.count) send.ranges.items) × (length send.ranges.items ≤ 512)

-- empty, or a comment, which begins with `#`
abbrev pub is_nothing : List ℕ → Bool
is_nothing [] = true
is_nothing (first ∷ rest) = first == byte "#"

-- a copy of a TX buffer has at most 32,768 bytes, a send has its total and not too many ranges, and a relinquish no flag but one that orders a clear
abbrev pub HasParts : Line → Type 0
HasParts Nothing = Unit {0}
HasParts (Tx id bytes) = length bytes.items ≤ 32768
HasParts (Call id registers) = Unit {0}
HasParts (Send kind send) = IsWhole send
HasParts (Retrieve fields) = Unit {0}
HasParts (Relinquish fields) = IsTrue (are_clear_flags fields.flags)
HasParts (Reclaim reclaim) = Unit {0}
HasParts (Maps id) = Unit {0}
HasParts (Tables id) = Unit {0}
HasParts Owners = Unit {0}
HasParts Operations = Unit {0}
HasParts Audit = Unit {0}
