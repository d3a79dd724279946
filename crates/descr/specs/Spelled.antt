-- Bytes that spell ranges.
use Rattle.std.specs.Prelude.{ℕ, ◌+◌, ◌*◌, ◌≤◌, List, length, IsTrue}
use Rattle.base.specs.Descriptors.Send.{are_ranges}

-- as many ranges, 512 at most, stand at this offset, inside the bytes, and each keeps its rules
pub record SpellsRanges (count : ℕ) (bytes : List ℕ) (at : ℕ) : Type 0 where
  pub few : count ≤ 512
  pub inside : at + 16 * count ≤ length bytes
  pub valid : IsTrue (are_ranges count bytes at)
