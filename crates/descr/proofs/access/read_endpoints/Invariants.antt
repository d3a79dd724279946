use Rattle.std.proofs.Common.{◌≡◌, ◌-◌, ◌+◌, ◌*◌, ◌++◌}
use Rattle.arrayvec.specs.ArrayVec.{array_vec_len}
use Rattle.base.specs.Descriptors.Send as spec
use Rattle.descr.proofs.access.read_endpoints.Given as goal

abbrev pub invariant-loop-i : goal.invariant-loop-i
invariant-loop-i l = record {
  at : l.at ≡ l.array + 16 * l._i;
  len : array_vec_len l.receivers ≡ l._i;
  items : l.receivers.items ++ spec.endpoints_at (l.count - l._i) l.bytes l.at ≡ spec.endpoints_at l.count l.bytes l.array;
  rest : spec.are_accesses (l.count - l._i) l.bytes l.composite l.at ≡ spec.are_accesses l.count l.bytes l.composite l.array;
}
