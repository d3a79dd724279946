use Rattle.std.proofs.Common.{◌≡◌, ◌-◌, ◌+◌, ◌*◌}
use Rattle.base.specs.Descriptors.Send as spec
use Rattle.descr.proofs.ranges.read_ranges.Given as goal

abbrev pub invariant-loop-i : goal.invariant-loop-i
invariant-loop-i l = record {
  at : l.at ≡ l.first + 16 * l._i;
  rest : spec.are_ranges (l.count - l._i) l.bytes l.at ≡ spec.are_ranges l.count l.bytes l.first;
}
