-- The grammar of lines of scripts.
use Rattle.std.specs.Prelude.{ℕ, ◌+◌, ◌-◌, ◌*◌, ◌^◌, Bool, true, false, ◌&&◌, ◌==◌, nat_le, nat_lt, sum_by, List, [], ◌∷◌, ◌++◌, length, replicate, codes, bytes_eq, option_map, Option, Some, None, if◌then◌else◌}
use Rattle.std.specs.List.{slice_split, position_or_len, before_first, after_first}
use Rattle.std.specs.Str.{byte}
use Rattle.hex.specs.Hex.{hex_digit_value}
use Rattle.base.specs.declared.transaction.Kind.TheVariants.{Share, Lend, Donate}
use Rattle.base.specs.Descriptors.Permissions.{normal_write_back}
use Rattle.base.specs.Descriptors.Send.{Endpoint}
use Rattle.base.specs.Descriptors.Encoding.{RangeFields, RetrieveFields, RelinquishFields}
use Rattle.lines.specs.declared.send.ReclaimLine.{ReclaimLine}
use Rattle.lines.specs.Lines.{number_of, id_of, permissions_of, count_of, is_nothing}
use Rattle.lines.specs.Said.{Said, SaidSend, Nothing, Tx, Call, Send, Retrieve, Relinquish, Reclaim, Maps, Tables, Owners, Operations, Audit}

-- a part is read, and what follows with it; where it is not one, nothing is
infixl 10 ◌>>=◌
abbrev pub ◌>>=◌ : {A B : Type 0} → Option A → (A → Option B) → Option B
None >>= next = None
(Some part) >>= next = next part

-- ---- lists of parts

-- the parts between these marks
abbrev pub parted_by : ℕ → List ℕ → List (List ℕ)
parted_by mark text = slice_split (λ b. b == mark) text

-- what stands before the first of these marks, and after it
abbrev pub halves_at : ℕ → List ℕ → Option (List ℕ × List ℕ)
halves_at mark text =
    if nat_lt (position_or_len (λ b. b == mark) text) (length text)
    then Some (before_first (λ b. b == mark) text, after_first (λ b. b == mark) text) else None

-- what each part writes
abbrev pub each : {A : Type 0} → (List ℕ → Option A) → List (List ℕ) → Option (List A)
each read [] = Some []
each read (part ∷ parts) = do
  first ← read part
  rest ← each read parts
  Some (first ∷ rest)

-- what the parts write, of which there are from 1 to this many
abbrev pub one_to : {A : Type 0} → ℕ → (List ℕ → Option A) → List (List ℕ) → Option (List A)
one_to most read parts =
    if nat_le 1 (length parts) && nat_le (length parts) most then each read parts else None

-- whether this last word stands, where there is no other
abbrev pub last_word : List ℕ → List (List ℕ) → Option Bool
last_word name [] = Some false
last_word name (word ∷ []) = if bytes_eq word name then Some true else None
last_word name (word ∷ next ∷ more) = None

-- ---- the words of a line

-- HEX: the bytes that two digits each write, in either case
abbrev pub hex_of : List ℕ → Option (List ℕ)
hex_of [] = Some []
hex_of (digit ∷ []) = None
hex_of (high ∷ low ∷ digits) = do
  h ← hex_digit_value high
  l ← hex_digit_value low
  bytes ← hex_of digits
  Some ((h * 16 + l) ∷ bytes)

-- the bytes of a copy of a TX buffer, of which there are from 1 to 32,768
abbrev pub copy_of : List ℕ → Option (List ℕ)
copy_of word = do
  bytes ← hex_of word
  if nat_le 1 (length bytes) && nat_le (length bytes) 32768 then Some bytes else None

-- `ID:PERM`
abbrev pub receiver_of : List ℕ → Option Endpoint
receiver_of word = do
  halves ← halves_at (byte ":") word
  id ← id_of halves.0
  permissions ← permissions_of halves.1
  Some (record { partition = id; permissions = permissions })

-- RECEIVERS: 1 to 8, parted by commas
abbrev pub receivers_of : List ℕ → Option (List Endpoint)
receivers_of word = one_to 8 receiver_of (parted_by (byte ",") word)

-- `NUM+COUNT`
abbrev pub range_of : List ℕ → Option RangeFields
range_of word = do
  halves ← halves_at (byte "+") word
  address ← number_of halves.0
  count ← count_of halves.1
  Some (record { address = address; count = count })

-- RANGES: 1 to 512, parted by commas
abbrev pub ranges_of : List ℕ → Option (List RangeFields)
ranges_of word = one_to 512 range_of (parted_by (byte ",") word)

-- the sum of the ranges' counts, which is below 2^32
abbrev pub total_of : List RangeFields → Option ℕ
total_of ranges =
    if nat_lt (sum_by (λ r. r.count) ranges) (2 ^ 32) then Some (sum_by (λ r. r.count) ranges)
    else None

-- TYPE: the flags of a retrieve request with the type in bits 4:3 that a digit 0 to 3 writes
abbrev pub type_of : List ℕ → Option ℕ
type_of [] = None
type_of (digit ∷ []) =
    if nat_le (byte "0") digit && nat_le digit (byte "3") then Some (8 * (digit - byte "0"))
    else None
type_of (digit ∷ next ∷ more) = None

-- ---- the words after a line's name

-- `ID HEX`, or `ID` for no bytes
abbrev pub tx_of : List (List ℕ) → Option Said
tx_of [] = None
tx_of (id ∷ []) = do
  p ← id_of id
  Some (Tx p [])
tx_of (id ∷ hex ∷ []) = do
  p ← id_of id
  bytes ← copy_of hex
  Some (Tx p bytes)
tx_of (id ∷ hex ∷ next ∷ more) = None

-- `NUM ..`: the first 1 to 8 of eight registers; the others are 0
abbrev pub registers_of : List (List ℕ) → Option (List ℕ)
registers_of words = do
  registers ← one_to 8 number_of words
  Some (registers ++ replicate (8 - length registers) 0)

-- `ID NUM ..`
abbrev pub call_of : List (List ℕ) → Option Said
call_of [] = None
call_of (id ∷ numbers) = do
  p ← id_of id
  registers ← registers_of numbers
  Some (Call p registers)

-- `ID NUM RECEIVERS`, then these ranges, and the last words: none, or `zero`
abbrev pub send_with : List ℕ → List ℕ → List ℕ → List RangeFields → List (List ℕ) → Option SaidSend
send_with id number endpoints ranges last = do
  sender ← id_of id
  tag ← number_of number
  receivers ← receivers_of endpoints
  total ← total_of ranges
  clears ← last_word (codes "zero") last
  Some (record {
    sender = sender;
    clears = clears;
    tag = tag;
    receivers = receivers;
    ranges = ranges;
    total = total;
  })

-- `ID NUM RECEIVERS RANGES`, and the same with a last word `zero`
abbrev pub send_of : List (List ℕ) → Option SaidSend
send_of (id ∷ number ∷ endpoints ∷ pages ∷ last) = do
  ranges ← ranges_of pages
  send_with id number endpoints ranges last
send_of words = None

-- `ID NUM ID NUM TYPE PERM`, and the same with a last word `alone`, which is bit 10 of the flags: the caller, the handle, the sender, the tag, the type and the permissions
abbrev pub retrieve_of : List (List ℕ) → Option RetrieveFields
retrieve_of (id ∷ number ∷ owner ∷ label ∷ digit ∷ rights ∷ last) = do
  caller ← id_of id
  handle ← number_of number
  sender ← id_of owner
  tag ← number_of label
  kind ← type_of digit
  permissions ← permissions_of rights
  alone ← last_word (codes "alone") last
  Some (record {
    header = record {
      sender = sender;
      attributes = normal_write_back;
      flags = kind + (if alone then 0x400 else 0);
      handle = handle;
      tag = tag;
    };
    endpoint = record { partition = caller; permissions = permissions };
  })
retrieve_of words = None

-- `ID NUM`, and the same with a last word `zero`, which is bit 0 of the flags
abbrev pub relinquish_of : List (List ℕ) → Option RelinquishFields
relinquish_of (id ∷ number ∷ last) = do
  caller ← id_of id
  handle ← number_of number
  clears ← last_word (codes "zero") last
  Some (record { handle = handle; flags = if clears then 1 else 0; endpoint = caller })
relinquish_of words = None

-- `ID NUM`, and the same with a last word `zero`
abbrev pub reclaim_of : List (List ℕ) → Option ReclaimLine
reclaim_of (id ∷ number ∷ last) = do
  caller ← id_of id
  handle ← number_of number
  clears ← last_word (codes "zero") last
  Some (record { caller = caller; handle = handle; clears = clears })
reclaim_of words = None

-- `ID`
abbrev pub only_id : List (List ℕ) → Option ℕ
only_id [] = None
only_id (id ∷ []) = id_of id
only_id (id ∷ next ∷ more) = None

-- no more words
abbrev pub only : Said → List (List ℕ) → Option Said
only line [] = Some line
only line (word ∷ more) = None

-- ---- lines

-- the line with this name and these words after it
abbrev pub named : List ℕ → List (List ℕ) → Option Said
named name words =
    if bytes_eq name (codes "tx") then tx_of words
    else if bytes_eq name (codes "call") then call_of words
    else if bytes_eq name (codes "share") then option_map (Send Share) (send_of words)
    else if bytes_eq name (codes "lend") then option_map (Send Lend) (send_of words)
    else if bytes_eq name (codes "donate") then option_map (Send Donate) (send_of words)
    else if bytes_eq name (codes "retrieve") then option_map Retrieve (retrieve_of words)
    else if bytes_eq name (codes "relinquish") then option_map Relinquish (relinquish_of words)
    else if bytes_eq name (codes "reclaim") then option_map Reclaim (reclaim_of words)
    else if bytes_eq name (codes "maps") then option_map Maps (only_id words)
    else if bytes_eq name (codes "tables") then option_map Tables (only_id words)
    else if bytes_eq name (codes "owners") then only Owners words
    else if bytes_eq name (codes "ops") then only Operations words
    else if bytes_eq name (codes "audit") then only Audit words
    else None

-- the line whose words these are
abbrev pub line_of_words : List (List ℕ) → Option Said
line_of_words [] = None
line_of_words (name ∷ words) = named name words

-- the line that bytes without a line feed spell: at most 66,000 of them, nothing, or words parted by one blank
unfoldable pub line_of : List ℕ → Option Said
line_of bytes =
    if nat_lt 66000 (length bytes) then None
    else if is_nothing bytes then Some Nothing
    else line_of_words (parted_by (byte " ") bytes)
