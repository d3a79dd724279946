use Rattle.stage2.proofs.Names.{view_in, ◌-◌}
use Rattle.stage2.proofs.Counting.UpToPiece.{IsPlanned}
use Rattle.stage2.proofs.plan.plan_chunks.Given as goal

-- the chunks before this one are planned
abbrev pub invariant-loop-piece : goal.invariant-loop-piece
invariant-loop-piece g l = record {
  planned : IsPlanned l.fn.gigabyte l.fn.runs l.fn.edit.access (view_in l.fn.edit.layout.now l.fn.edit.row (g.M.TableMem.state l.fn.memory)) l.index l.rest l.plan;
}

abbrev pub decreases-loop-piece : goal.decreases-loop-piece
decreases-loop-piece g l = 512 - l.index
