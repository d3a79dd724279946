use Rattle.std.proofs.Common.{◌-◌, ◌<◌}
use Rattle.stage2.proofs.Editing.UpToChunk.{IsUpTo}
use Rattle.stage2.proofs.level2.edit_each_chunk.Given as goal

-- the chunks before this one are edited
abbrev pub invariant-loop-piece : goal.invariant-loop-piece
invariant-loop-piece g l = record {
  up_to : l.fn.gigabyte < 512 → IsUpTo l.fn.edit l.fn.second l.fn.gigabyte l.fn.runs (g.M.TableMem.state l.fn.memory) (g.M.TableMem.room l.fn.memory) l.index l.rest (g.M.TableMem.state l.memory) (g.M.TableMem.room l.memory);
}

abbrev pub decreases-loop-piece : goal.decreases-loop-piece
decreases-loop-piece g l = 512 - l.index
