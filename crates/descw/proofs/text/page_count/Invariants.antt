use Rattle.std.proofs.Common.{◌≡◌, ◌+◌, drop}
use Rattle.base.specs.Descriptors.Send.{pages_in}
use Rattle.descw.proofs.text.page_count.Given as goal

abbrev pub invariant-loop-run : goal.invariant-loop-run
invariant-loop-run l = l.sum + pages_in (drop l.run-index l.runs) ≡ pages_in l.runs
