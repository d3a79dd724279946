-- What walkers see of an edit of the tables and of the clears of its pages.
use Rattle.std.specs.Prelude.{◌≡◌, ◌≢◌, ℕ, ◌^◌, ◌<◌, true, List, [], Option, Some, length, reverse, None, if◌then◌else◌}
use Rattle.base.specs.Access.{View}
use Rattle.base.specs.Manifest.{row_of}
use Rattle.base.specs.Pages.{PageRun, covers}
use Rattle.pool.specs.Pool.{Pool, words_of}
use Rattle.stage2.specs.declared.walked.Walked.TheVariants.{None as Unmapped}
use Rattle.stage2.specs.Moments.{Moments, cleared_by}
use Rattle.stage2.specs.Slot.{Layout}
use Rattle.stage2.specs.Edits.{with_pages}
use Rattle.stage2.specs.Tables.{TablesView, AreFreeFor, IsCallInStep}
use Rattle.stage2.specs.Walk.{walk, Agrees}
use Rattle.rules.specs.Rule.{Edit}

-- the runs that an edit clears, the latest first
abbrev pub clears_of : Edit → List PageRun
clears_of edit = if edit.clears then reverse edit.runs else []

abbrev pub clears_in : Option Edit → List PageRun
clears_in None = []
clears_in (Some edit) = clears_of edit

-- each row is that of a partition
abbrev pub AreRowsOfPartitions : List ℕ → Type 0
AreRowsOfPartitions ids = (row : ℕ) → row < length ids → (p : ℕ) × (row_of ids p ≡ row)

-- no row reaches a page that is cleared
abbrev pub AreUnreached : Edit → TablesView → Type 0
AreUnreached edit t =
    edit.clears ≡ true → (row n : ℕ) → row < length t.layout.ids → n < 2 ^ 27
    → covers edit.runs n ≡ true → walk t.layout (words_of t.pool.memory.words) row n ≡ Unmapped

-- the clears of pages that no row reaches keep the call of the edit in step
abbrev pub ClearsInCall : Edit → TablesView → TablesView → Type 0
ClearsInCall edit old new =
    AreUnreached edit old → (entry : TablesView) → entry.layout ≡ old.layout
    → IsCallInStep entry edit.who edit.runs edit.to [] old
    → IsCallInStep entry edit.who edit.runs edit.to (clears_of edit) new

-- no other partition reaches a page that is cleared
abbrev pub AreUnreachedByOthers : Edit → (ℕ → ℕ → View) → Type 0
AreUnreachedByOthers edit view =
    edit.clears ≡ true → (p n : ℕ) → covers edit.runs n ≡ true → p ≢ edit.who
    → view p n ≡ None

-- what walkers see of the edit and its clears, which are those that it orders
pub record IsShown (edit : Edit) (layout : Layout) (old new : Pool) (before : ℕ → ℕ → View) : Type 0 where
  pub moments : Moments layout old new before (with_pages edit.who edit.runs edit.to before)
  pub cleared : cleared_by new.operations ≡ clears_of edit

-- so it is where they are all that is done to the tables
abbrev pub ShowsOne : Edit → TablesView → TablesView → Type 0
ShowsOne edit old new =
    old.pool.operations ≡ [] → (before : ℕ → ℕ → View)
    → Agrees old.layout (words_of old.pool.memory.words) before
    → AreFreeFor edit.who edit.runs edit.to before → AreUnreachedByOthers edit before
    → IsShown edit old.layout old.pool new.pool before
