use Rattle.std.proofs.Common.{◌-◌, ◌+◌, ◌*◌, ◌^◌, ◌≤◌, length, take, drop}
use Rattle.spans.specs.Spans.{end_from}
use Rattle.spans.specs.Search.{IsSegment}
use Rattle.spans.proofs.find.segment_in.Given as goal

abbrev pub invariant-loop-low : goal.invariant-loop-low
invariant-loop-low g l = record {
  ordered : l.low ≤ l.high;
  inside : l.high ≤ length l.spans;
  below : end_from 0 (take l.low l.spans) ≤ l.page;
  segment : IsSegment (drop l.high l.spans) l.page l.segment;
  counts : l.initial.probes ≤ l.probes;
  halves : (2 ^ (l.probes - l.initial.probes)) * (l.high - l.low) ≤ length l.spans;
  cost : 2 ^ (l.probes - l.initial.probes) ≤ 2 * length l.spans + 1;
}

abbrev pub decreases-loop-low : goal.decreases-loop-low
decreases-loop-low g l = l.high - l.low
