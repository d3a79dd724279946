use Rattle.std.proofs.Common.{◌≡◌, ◌+◌, ◌^◌, ◌<◌, drop, sum_by}
use Rattle.lines.proofs.send.page_count.Given as goal

abbrev pub invariant-loop-range : goal.invariant-loop-range
invariant-loop-range l = record {
  small : l.total < 2 ^ 32;
  sum : l.total + sum_by (λ r. r.count) (drop l.range-index l.ranges) ≡ sum_by (λ r. r.count) l.ranges;
}
