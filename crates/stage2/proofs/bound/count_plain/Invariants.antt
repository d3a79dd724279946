use Rattle.stage2.proofs.Names.{count_below, is_between, points_at, ◌+◌, ◌≤◌, ◌&&◌, not, Some}
use Rattle.stage2.proofs.bound.count_plain.Given as goal

-- the chunks before this one are counted
abbrev pub invariant-loop-index : goal.invariant-loop-index
invariant-loop-index g l = record {
  counts : count_below (λ x. is_between l.fn.chunks.first l.fn.chunks.end x && not (points_at (Some l.second) x (g.M.TableMem.state l.memory))) l.index ≤ l.count;
  few : l.count + l.fn.chunks.first ≤ l.index;
}
