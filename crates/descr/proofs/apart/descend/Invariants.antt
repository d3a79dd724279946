use Rattle.std.proofs.Common.{◌≡◌, ◌^◌}
use Rattle.descr.specs.Order.{fall}
use Rattle.descr.proofs.apart.descend.Given as goal

abbrev pub invariant-loop-run : goal.invariant-loop-run
invariant-loop-run l = fall l.start l.run-iterator ≡ fall (2 ^ 27) l.ranges
