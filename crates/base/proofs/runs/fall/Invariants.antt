use Rattle.std.proofs.Common.{◌≡◌, true, take, reverse}
use Rattle.base.specs.Pages.{are_normal}
use Rattle.base.proofs.runs.fall.Given as goal

-- those before this one fall
abbrev pub invariant-loop-index : goal.invariant-loop-index
invariant-loop-index l = record {
  fallen : are_normal (reverse (take l.index l.runs)) ≡ true;
}
