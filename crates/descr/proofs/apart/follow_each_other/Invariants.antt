use Rattle.std.proofs.Common.{◌≡◌, drop}
use Rattle.descr.specs.Order.{follow}
use Rattle.descr.proofs.apart.follow_each_other.Given as goal

abbrev pub invariant-loop-run : goal.invariant-loop-run
invariant-loop-run l = follow l.end (drop l.run-index l.runs) ≡ follow 0 l.runs
