use Rattle.std.proofs.Common.{◌≡◌, ◌+◌, drop}
use Rattle.base.specs.Pages.{are_normal, rise_above}
use Rattle.base.proofs.runs.are_normal.Given as goal

-- what is left decides
abbrev pub invariant-loop-run : goal.invariant-loop-run
invariant-loop-run l = record {
  left : are_normal l.runs ≡ rise_above l.end (drop (l.run-index + 1) l.runs);
}
