-- Marks of numbers from 0 on.
use Rattle.std.specs.Prelude.{◌≡◌, ℕ, ◌<◌, ◌≤◌, Bool, true, false, List, length, slice_index_or}

-- each number at or above this one has a mark
abbrev pub AllMarkedFrom : List Bool → ℕ → Type 0
AllMarkedFrom marks n = (k : ℕ) → n ≤ k → k < length marks → slice_index_or marks k false ≡ true

-- the lowest number at or above another that has no mark
pub record IsFirstUnmarked (marks : List Bool) (n found : ℕ) : Type 0 where
  pub inside : found < length marks
  pub from : n ≤ found
  pub free : slice_index_or marks found false ≡ false
  pub before : (k : ℕ) → n ≤ k → k < found → slice_index_or marks k false ≡ true
