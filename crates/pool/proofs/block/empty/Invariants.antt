-- The places below `place` are empty.
use Rattle.std.proofs.Common.{◌≡◌, None}
use Rattle.pool.proofs.Contents.{swept}
use Rattle.pool.proofs.block.empty.Given as goal

abbrev pub invariant-loop-place : goal.invariant-loop-place
invariant-loop-place l = (l.cells.at ≡ l.fn.cells.at) × (l.cells.slots ≡ swept None l.place l.fn.cells.slots)
