-- What walkers see of the edits of chunks, gigabytes and rows.
use Rattle.std.specs.Prelude.{◌≡◌, ℕ, ◌+◌, ◌*◌, ◌/◌, Bool, ◌&&◌, ◌==◌, nat_lt, ◌⊎◌, List}
use Rattle.base.specs.Pages.{PageRun}
use Rattle.base.specs.Access.{View}
use Rattle.words.specs.Words.{table_word_of}
use Rattle.pool.specs.Pool.{Pages}
use Rattle.stage2.specs.Slot.{Layout}
use Rattle.stage2.specs.Edits.{disturbed}

-- the root's word of a gigabyte links this level 2 table, or is 0 still
abbrev pub IsSeated : Layout → ℕ → ℕ → ℕ → Pages → Type 0
IsSeated layout row g j m = (m.words row g ≡ table_word_of (layout.base + j)) ⊎ (m.words row g ≡ 0)

-- those of a gigabyte's chunks before the i-th
abbrev pub disturbed_below : ℕ → ℕ → List PageRun → (ℕ → View) → (ℕ → View) → ℕ → Bool
disturbed_below g i runs old new n =
    ((n / 512 / 512 == g) && nat_lt (n / 512) (512 * g + i)) && disturbed runs old new n
