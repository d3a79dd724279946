use Rattle.std.proofs.Common.{◌≡◌, ◌+◌, ◌*◌, ◌++◌, drop, vec_len, vec_capacity}
use Rattle.base.specs.Descriptors.Encoding as texts
use Rattle.descw.proofs.text.write_ranges.Given as goal

abbrev pub invariant-loop-range : goal.invariant-loop-range
invariant-loop-range l = record {
  text : l.out.items ++ texts.ranges_text (drop l.range-index l.ranges) ≡ l.initial.out.items ++ texts.ranges_text l.ranges;
  len : vec_len l.out ≡ vec_len l.initial.out + 16 * l.range-index;
  capacity : vec_capacity l.out ≡ vec_capacity l.initial.out;
}
