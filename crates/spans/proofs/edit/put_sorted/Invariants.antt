use Rattle.std.proofs.Common.{◌≡◌, ℕ, ◌<◌, ◌≤◌, Some, true, cond, length, take, drop, vec_capacity}
use Rattle.base.specs.Pages.{covers}
use Rattle.spans.specs.Spans.{value_at, are_joined}
use Rattle.spans.specs.Blocks.{all_spans, needed, AreDense, AreStacked}
use Rattle.spans.proofs.edit.put_sorted.Given as goal

-- the runs from `left` on are done
abbrev pub invariant-loop-left : goal.invariant-loop-left
invariant-loop-left l = record {
  left : l.left ≤ length l.runs;
  stacked : AreStacked l.blocks.list;
  dense : AreDense l.blocks.list;
  joined : are_joined (all_spans l.blocks.list) ≡ true;
  some : 0 < length l.blocks.list;
  at : (n : ℕ) → value_at (all_spans l.blocks.list) n ≡ cond (covers (drop l.left l.runs) n) (Some l.value) (value_at (all_spans l.fn.blocks.list) n);
  spare : needed l.blocks.list (take l.left l.runs) ≤ l.blocks.spare;
  capacity : vec_capacity l.fn.scratch ≤ vec_capacity l.scratch;
}

abbrev pub decreases-loop-left : goal.decreases-loop-left
decreases-loop-left l = l.left
