use Rattle.std.proofs.Common.{◌≡◌, ◌+◌, ◌≤◌, length, take}
use Rattle.spans.specs.Blocks.{needed}
use Rattle.spans.proofs.place.more_needed.Given as goal

abbrev pub invariant-loop-left : goal.invariant-loop-left
invariant-loop-left l = record {
  left : l.left ≤ length l.runs;
  sum : l.need + needed l.blocks.list (take l.left l.runs) ≡ needed l.blocks.list l.runs;
}

abbrev pub decreases-loop-left : goal.decreases-loop-left
decreases-loop-left l = l.left
