use Rattle.std.proofs.Common.{◌≡◌, ◌+◌, ◌≤◌, ◌++◌, length}
use Rattle.arrayvec.specs.ArrayVec.{array_vec_len}
use Rattle.descr.proofs.apart.listed.Given as goal

abbrev pub invariant-loop-run : goal.invariant-loop-run
invariant-loop-run l = record {
  items : l.runs.items ++ l.rest ≡ l.ranges;
  few : array_vec_len l.runs + length l.rest ≤ 512;
}

abbrev pub decreases-loop-run : goal.decreases-loop-run
decreases-loop-run l = length l.rest
