-- Counting tables by the pages at which a partition's views change (Arm ARM, VMSAv8-64, 4 KB granule: a level 3 table maps a chunk of 512 pages).
use Rattle.std.specs.Prelude.{ℕ, ◌+◌, ◌-◌, ◌/◌, ◌%◌, Bool, not, ◌&&◌, ◌==◌, max, if◌then◌else◌}
use Rattle.base.specs.Access.{View}
use Rattle.base.specs.Need.{is_alike}

-- the page begins inside a chunk, and its view is not that of the page before it
unfoldable pub is_boundary : (ℕ → View) → ℕ → Bool
is_boundary view n = not (n % 512 == 0) && not (is_alike (view (n - 1)) (view n))

-- places counted upward: those below `next` were looked at, and `count` of them needed a table
pub record Tally : Type 0 where
  pub count : ℕ
  pub next : ℕ

-- the places from `first` to `end` are counted, but for those that were looked at
abbrev pub added : ℕ → ℕ → Tally → Tally
added first end t = record { count = t.count + (end - max first t.next); next = end }

-- a chunk with a boundary inside it needs a table
abbrev pub passed : (ℕ → View) → ℕ → Tally → Tally
passed view page t = if is_boundary view page then added (page / 512) (page / 512 + 1) t else t
