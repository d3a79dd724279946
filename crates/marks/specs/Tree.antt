-- Bits in words of 64, as a tree: bit b says whether word b + 1 is not 0, down to the bits from a start on.
use Rattle.std.specs.Prelude.{◌≡◌, ◌≢◌, ℕ, zero, suc, ◌+◌, ◌*◌, ◌/◌, ◌%◌, ◌<◌, ◌≤◌, ◌^◌, Bool, true, false, not, ◌==◌, List, length, map, slice_index}
use Rattle.std.specs.List.{range_with_len}
use Rattle.std.specs.Int.{bit_at}

-- ---- one word

-- the lowest place at or above another where a word has a bit
pub record IsLowestBit (word place found : ℕ) : Type 0 where
  pub from : place ≤ found
  pub inside : found < 64
  pub on : bit_at word found ≡ 1
  pub before : (i : ℕ) → place ≤ i → i < found → bit_at word i ≡ 0

unfoldable pub has_bits : ℕ → Bool
has_bits word = not (word == 0)

-- ---- words

-- the bit at a place in words of 64
unfoldable pub bit_in : List ℕ → ℕ → Bool
bit_in words bit = bit_at (slice_index words (bit / 64)) (bit % 64) == 1

-- no bit from one place up to another is set
abbrev pub NoneBetween : List ℕ → ℕ → ℕ → Type 0
NoneBetween words from to = (x : ℕ) → from ≤ x → x < to → bit_in words x ≡ false

-- the first bit at or behind a place that is set, and which is one of those from a start on
pub record IsFirstBit (words : List ℕ) (start from found : ℕ) : Type 0 where
  pub counts : start ≤ found
  pub behind : from ≤ found
  pub on : bit_in words found ≡ true
  pub before : NoneBetween words from found

-- each bit before the start says whether its word is not 0
pub record IsSummed (start : ℕ) (words : List ℕ) : Type 0 where
  pub each : (b : ℕ) → b < start → bit_in words b ≡ has_bits (slice_index words (b + 1))

-- each but one
pub record IsSummedBut (start bit : ℕ) (words : List ℕ) : Type 0 where
  pub each : (b : ℕ) → b < start → b ≢ bit → bit_in words b ≡ has_bits (slice_index words (b + 1))

-- ---- levels

-- the first bit of a level: each bit of the level above has a word of 64 bits, and so has the root
unfoldable pub level_start : ℕ → ℕ
level_start zero = 0
level_start (suc level) = 64 * (level_start level + 1)

-- so many bits from a start on are the first ones of a level
pub record BeginLevel (start count : ℕ) : Type 0 where
  pub level : ℕ
  pub begins : start ≡ level_start level
  pub fits : start + count ≤ level_start (suc level)

pub record IsInLevel (level bit : ℕ) : Type 0 where
  pub from : level_start level ≤ bit
  pub to : bit < level_start (suc level)

-- the first of the bits that stand so many levels below a bit
unfoldable pub low : ℕ → ℕ → ℕ
low zero bit = bit
low (suc height) bit = low height (64 * (bit + 1))

-- ---- marks

-- the marks of so many numbers, whose bits begin with this one: a bit that is set is no mark
unfoldable pub marks_in : ℕ → ℕ → List ℕ → List Bool
marks_in start count words = map (λ bit. not (bit_in words bit)) (range_with_len start count)

pub record IsTree (start count : ℕ) (words : List ℕ) : Type 0 where
  pub last : BeginLevel start count
  pub room : start + count ≤ 64 * length words
  pub small : length words ≤ 2 ^ 26
  pub summed : IsSummed start words
  pub rest : (x : ℕ) → start + count ≤ x → bit_in words x ≡ false
