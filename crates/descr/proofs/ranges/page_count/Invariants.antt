use Rattle.std.proofs.Common.{◌≡◌, ◌+◌, ◌*◌, ◌^◌, ◌≤◌, length}
use Rattle.base.specs.Descriptors.Send.{pages_in}
use Rattle.descr.proofs.ranges.page_count.Given as goal

abbrev pub invariant-loop-run : goal.invariant-loop-run
invariant-loop-run l = record {
  value : l.sum + pages_in l.run-iterator ≡ pages_in l.ranges;
  small : l.sum + 2 ^ 32 * length l.run-iterator ≤ 2 ^ 32 * 512;
}
