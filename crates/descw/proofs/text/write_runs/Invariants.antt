use Rattle.std.proofs.Common.{◌≡◌, ◌+◌, ◌*◌, ◌++◌, drop, vec_len, vec_capacity}
use Rattle.base.specs.Descriptors.Encoding as texts
use Rattle.descw.specs.Inside.{AreRuns}
use Rattle.descw.proofs.text.write_runs.Given as goal

abbrev pub invariant-loop-run : goal.invariant-loop-run
invariant-loop-run l = record {
  text : l.out.items ++ texts.runs_text (drop l.run-index l.runs) ≡ l.initial.out.items ++ texts.runs_text l.runs;
  len : vec_len l.out ≡ vec_len l.initial.out + 16 * l.run-index;
  capacity : vec_capacity l.out ≡ vec_capacity l.initial.out;
  in_range : AreRuns (drop l.run-index l.runs) → AreRuns l.runs;
}
