use Rattle.std.proofs.Common.{◌≡◌, ◌+◌, ◌*◌, ◌++◌, drop, vec_len, vec_capacity}
use Rattle.base.specs.Descriptors.Encoding as texts
use Rattle.descw.specs.Inside.{AreIdentifiers}
use Rattle.descw.proofs.text.write_accesses.Given as goal

abbrev pub invariant-loop-endpoint : goal.invariant-loop-endpoint
invariant-loop-endpoint l = record {
  text : l.out.items ++ texts.accesses_text l.composite (drop l.endpoint-index l.receivers) ≡ l.initial.out.items ++ texts.accesses_text l.composite l.receivers;
  len : vec_len l.out ≡ vec_len l.initial.out + 16 * l.endpoint-index;
  capacity : vec_capacity l.out ≡ vec_capacity l.initial.out;
  fits : AreIdentifiers (drop l.endpoint-index l.receivers) → AreIdentifiers l.receivers;
}
