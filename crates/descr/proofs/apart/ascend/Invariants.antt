use Rattle.std.proofs.Common.{◌≡◌}
use Rattle.descr.specs.Order.{follow}
use Rattle.descr.proofs.apart.ascend.Given as goal

abbrev pub invariant-loop-run : goal.invariant-loop-run
invariant-loop-run l = follow l.end l.run-iterator ≡ follow 0 l.ranges
