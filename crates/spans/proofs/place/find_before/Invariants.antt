use Rattle.std.proofs.Common.{◌≡◌, [], ℕ, ◌+◌, ◌-◌, ◌*◌, ◌^◌, ◌<◌, ◌≤◌, List, length, get_or}
use Rattle.spans.specs.Spans.{Span}
use Rattle.spans.specs.Search.{begins_at}
use Rattle.spans.proofs.place.find_before.Given as goal

abbrev pub invariant-loop-low : goal.invariant-loop-low
invariant-loop-low g l = record {
  ordered : l.low ≤ l.high;
  inside : l.high ≤ length l.blocks.list;
  before : (i : ℕ) (d : List Span) → i < l.low → begins_at (get_or l.blocks.list i d) < l.page;
  behind : (i : ℕ) (d : List Span) → l.high ≤ i → i < length l.blocks.list → l.page ≤ begins_at (get_or l.blocks.list i d);
  next : l.next ≡ begins_at (get_or l.blocks.list l.high []);
  in_range : l.next ≤ 2 ^ 27;
  counts : l.initial.probes ≤ l.probes;
  halves : (2 ^ (l.probes - l.initial.probes)) * (l.high - l.low) ≤ length l.blocks.list;
  cost : 2 ^ (l.probes - l.initial.probes) ≤ 2 * length l.blocks.list + 1;
}

abbrev pub decreases-loop-low : goal.decreases-loop-low
decreases-loop-low g l = l.high - l.low
