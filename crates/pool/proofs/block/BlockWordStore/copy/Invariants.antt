-- The words below `place` are copied.
use Rattle.pool.proofs.Names.{held, ◌≡◌, take}
use Rattle.pool.proofs.block.BlockWordStore.copy.Given as goal

abbrev pub invariant-loop-place : goal.invariant-loop-place
invariant-loop-place l = l.copy.items ≡ take l.place (held l.self.cells.slots)
