use Rattle.std.proofs.Common.{◌≡◌, ◌+◌, ◌≤◌, ◌++◌, length, vec_len, vec_capacity}
use Rattle.spm.proofs.calls.send.ranges_of.Given as goal

abbrev pub invariant-loop-run : goal.invariant-loop-run
invariant-loop-run l = record {
  copied : l.ranges.items ++ l.run-iterator ≡ l.desc.ranges;
  room : vec_len l.ranges + length l.run-iterator ≤ vec_capacity l.ranges;
}
