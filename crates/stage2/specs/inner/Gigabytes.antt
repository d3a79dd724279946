-- The edit of one gigabyte, and of all.
use Rattle.std.specs.Prelude.{◌≡◌, ℕ, ◌+◌, ◌*◌, ◌/◌, ◌^◌, ◌≤◌, ◌<◌, Bool, true, not, ◌&&◌, ◌==◌, if◌then◌else◌, nat_lt, Some, length, List}
use Rattle.base.specs.Pages.{PageRun, covers}
use Rattle.base.specs.Access.{View}
use Rattle.pool.specs.Pool.{Pages, used_by, row_quota}
use Rattle.base.specs.Counts.{count_below}
use Rattle.stage2.specs.Slot.{Layout}
use Rattle.stage2.specs.Walk.{walk, walked, Gigabyte, table_at}
use Rattle.base.specs.Need.{is_mixed, is_reached, need, grow}
use Rattle.stage2.specs.Edits.{edited}
use Rattle.stage2.specs.Room.{sum_below}
use Rattle.stage2.specs.Orderly.{IsOrderly, IsCanonical, answers, linked}

-- the new view has a level 3 table at this chunk, and the old has none
abbrev pub grows_at : (ℕ → View) → (ℕ → View) → ℕ → Bool
grows_at old new c = is_mixed new c && not (is_mixed old c)

-- the tables of the new view under this gigabyte, itself with them, at places where the old has none
abbrev pub gigabyte_growth : (ℕ → View) → (ℕ → View) → ℕ → ℕ
gigabyte_growth old new g =
    (if is_reached new g && not (is_reached old g) then 1 else 0)
    + count_below (λ x. grows_at old new (512 * g + x)) 512

-- the free pages of the row are enough for the chunks of the gigabyte, whose level 2 table j is taken
pub record Fits (layout : Layout) (row g j : ℕ) (runs : List PageRun) (access : View) (m : Pages) : Type 0 where
  pub fits : used_by m row + count_below
      (λ x. grows_at (answers layout (linked layout row g j m).words row) (edited runs access (answers layout (linked layout row g j m).words row)) (512 * g + x))
      512 ≤ row_quota m.quotas row

-- the free pages of the row are enough for the gigabyte
pub record FitsGigabyte (layout : Layout) (row g : ℕ) (runs : List PageRun) (access : View) (m : Pages) : Type 0 where
  pub fits : used_by m row + gigabyte_growth (answers layout m.words row)
      (edited runs access (answers layout m.words row)) g ≤ row_quota m.quotas row

-- the chunks of the gigabyte before the i-th are edited; its level 2 table is j, if only once its root's word is written
pub record IsUnderway (layout : Layout) (row g j i : ℕ) (answer : ℕ → View) (old new : Pages) : Type 0 where
  pub orderly : IsOrderly layout (linked layout row g j new)
  pub second : table_at layout (linked layout row g j new).words (Gigabyte row g) ≡ Some j
  pub ids : new.ids ≡ old.ids
  pub quotas : new.quotas ≡ old.quotas
  pub root : (x : ℕ) → new.words row x ≡ old.words row x
  pub walks : (q n : ℕ) → n < 2 ^ 27 → walk layout (linked layout row g j new).words q n
      ≡ (if (q == row) && ((n / 512 / 512 == g) && nat_lt (n / 512) (512 * g + i)) then walked n (answer n) else walk layout (linked layout row g j old).words q n)
  pub others : (r x : ℕ) → r < length layout.ids → x < 512
      → table_at layout (linked layout row g j new).words (Gigabyte r x)
      ≡ table_at layout (linked layout row g j old).words (Gigabyte r x)
  pub used : used_by new row ≤ used_by old row + count_below (λ x. grows_at (answers layout (linked layout row g j old).words row) answer (512 * g + x)) i

-- the pages of a gigabyte of the row give these answers, all others what they gave
pub record EditsGigabyte (layout : Layout) (row g : ℕ) (answer : ℕ → View) (old new : Pages) : Type 0 where
  pub canonical : IsCanonical layout new
  pub ids : new.ids ≡ old.ids
  pub quotas : new.quotas ≡ old.quotas
  pub walks : (q n : ℕ) → n < 2 ^ 27 → walk layout new.words q n
      ≡ (if (q == row) && (n / 512 / 512 == g) then walked n (answer n) else walk layout old.words q n)
  pub used : used_by new row ≤ used_by old row + gigabyte_growth (answers layout old.words row) answer g

-- some page of the runs is in the gigabyte
pub record Touches (runs : List PageRun) (g : ℕ) : Type 0 where
  pub page : ℕ
  pub small : page < 2 ^ 27
  pub covered : covers runs page ≡ true
  pub here : page / 512 / 512 ≡ g

-- the runs have pages in the gigabyte, and nowhere else
pub record LieInGigabyte (runs : List PageRun) (g : ℕ) : Type 0 where
  pub below : g < 512
  pub touched : Touches runs g
  pub only : (n : ℕ) → covers runs n ≡ true → n / 512 / 512 ≡ g

-- ---- all gigabytes of a row

-- the gigabytes before the i-th are edited
pub record IsPast (layout : Layout) (row i : ℕ) (answer : ℕ → View) (old new : Pages) : Type 0 where
  pub canonical : IsCanonical layout new
  pub ids : new.ids ≡ old.ids
  pub quotas : new.quotas ≡ old.quotas
  pub walks : (q n : ℕ) → n < 2 ^ 27 → walk layout new.words q n
      ≡ (if (q == row) && nat_lt (n / 512 / 512) i then walked n (answer n) else walk layout old.words q n)
  pub used : used_by new row ≤ used_by old row + sum_below (gigabyte_growth (answers layout old.words row) answer) i

-- the row's walks give these answers, those of all other rows what they gave
pub record EditsRow (layout : Layout) (row : ℕ) (answer : ℕ → View) (old new : Pages) : Type 0 where
  pub canonical : IsCanonical layout new
  pub ids : new.ids ≡ old.ids
  pub quotas : new.quotas ≡ old.quotas
  pub walks : (q n : ℕ) → n < 2 ^ 27 → walk layout new.words q n
      ≡ (if q == row then walked n (answer n) else walk layout old.words q n)

-- the change fits: what the view needs, and the tables of the new view at places where it has none
pub record FitsRow (layout : Layout) (row : ℕ) (runs : List PageRun) (access : View) (m : Pages) : Type 0 where
  pub fits : need (answers layout m.words row) + grow (answers layout m.words row)
      (edited runs access (answers layout m.words row)) ≤ row_quota m.quotas row
