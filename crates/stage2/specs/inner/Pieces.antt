-- The pieces of runs in a gigabyte, upward.
use Rattle.std.specs.Prelude.{◌≡◌, ℕ, ◌+◌, ◌*◌, ◌≤◌, ◌<◌, true, false, List}
use Rattle.base.specs.Pages.{PageRun}
use Rattle.stage2.specs.Edits.{touches_chunk}
use Rattle.stage2.specs.Parts.{runs_past}
use Rattle.stage2.specs.declared.parts.Piece.{Piece}
use Rattle.stage2.specs.inner.Chunks.{covers_chunk}

-- from its i-th chunk on these runs have no page before this piece, and they have those of its chunks that are filled
pub record IsNextPiece (g i : ℕ) (runs : List PageRun) (piece : Piece) : Type 0 where
  pub from : i ≤ piece.first
  pub small : piece.first < 512
  pub most : piece.filled ≤ 512
  pub apart : (x : ℕ) → i ≤ x → x < piece.first → touches_chunk (512 * g + x) runs ≡ false
  pub past : piece.runs ≡ runs_past (512 * (512 * g + piece.first)) runs
  pub filled : (x : ℕ) → piece.first ≤ x → x < piece.filled
      → covers_chunk (512 * g + x) piece.runs ≡ true
