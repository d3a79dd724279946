use Rattle.std.proofs.Common.{◌≡◌, ◌+◌, ◌*◌, ◌≤◌, ◌++◌, ℕ, Some, true, cond, length, take, drop, vec_capacity}
use Rattle.base.specs.Pages.{covers, rise}
use Rattle.spans.specs.Spans.{value_at, ascend, end_from, are_joined}
use Rattle.spans.specs.Edits.{all_from}
use Rattle.spans.proofs.merge.merge.Given as goal

-- what is done, and what is left of the intervals
abbrev pub invariant-loop-run : goal.invariant-loop-run
invariant-loop-run l = record {
  inside : l.at ≤ length l.spans;
  passed : end_from 0 (take l.at l.spans) ≤ l.from;
  ends : end_from 0 l.out.items ≤ l.from;
  ascending : ascend 0 (l.out.items ++ all_from l.from l.spans) ≡ true;
  rises : rise l.from (drop l.run-index l.runs) ≡ true;
  at : (n : ℕ) → value_at (l.out.items ++ all_from l.from l.spans) n ≡ cond (covers (take l.run-index l.runs) n) (Some l.value) (value_at l.spans n);
  joined : are_joined l.spans ≡ true → are_joined l.out.items ≡ true;
  len : length l.out.items + length (all_from l.from l.spans) ≤ length l.spans + 2 * l.run-index;
  capacity : vec_capacity l.fn.out ≤ vec_capacity l.out;
}
