use Rattle.std.proofs.Common.{◌≡◌, ◌∙◌, [], ℕ, ◌+◌, ◌-◌, ◌*◌, ◌/◌, ◌^◌, ◌<◌, ◌≤◌, List, length, get_or, ap, arith}
use Rattle.std.proofs.lemmas.List.{get_or_default}
use Rattle.spans.specs.Spans.{Span}
use Rattle.spans.specs.Search.{begins_at}
use Rattle.spans.proofs.Halving.{halved, looked}
use Rattle.spans.proofs.Stacked.{begins_upward, above_page}
use Rattle.spans.proofs.place.find_before.Goals as goal

pub loop-low-preserved-then-begin-page : goal.loop-low-preserved-then-begin-page
loop-low-preserved-then-begin-page g c =
    let inv = c.loop-low.invariant in
    let bs = c.args.blocks.now.list in
    let middle : ℕ = c.loop-low.low + (c.loop-low.high - c.loop-low.low) / 2 in
    let size : ℕ = c.loop-low.high - c.loop-low.low in
    let h : 2 ^ (c.loop-low.probes + 1 - c.args.probes.now) * (c.loop-low.high - (middle + 1)) ≤ length bs = halved c.loop-low.probes c.args.probes.now size (c.loop-low.high - (middle + 1)) (length bs) inv.counts (omega arith) inv.halves in
    let k : 2 ^ (c.loop-low.probes + 1 - c.args.probes.now) ≤ 2 * length bs + 1 = looked c.loop-low.probes c.args.probes.now size (length bs) inv.counts (omega arith) inv.halves in
    let count = c.count.ensures in
    let lt : middle < length bs = omega (arith, inv.inside, c.loop-low-test.true) in
    let begin : (d : List Span) → c.begin_at-begin.result ≡ begins_at (get_or bs middle d) = λ d. c.begin_at-begin.ensures.same ∙ ap begins_at (get_or_default bs middle [] d lt) in
    record {
      ordered = omega arith;
      inside = inv.inside;
      before = λ i d lt.
          let up = begins_upward 0 i middle bs d d c.requires.filled c.requires.ascending (omega arith) (omega (arith, inv.inside)) in
          omega (arith, up, begin d, c.if-begin-page.true);
      behind = inv.behind;
      next = inv.next;
      in_range = inv.in_range;
      counts = omega (arith, inv.counts, count);
      halves = rw count h;
      cost = rw count k;
    }

pub loop-low-preserved : goal.loop-low-preserved
loop-low-preserved g c =
    let inv = c.loop-low.invariant in
    let bs = c.args.blocks.now.list in
    let middle : ℕ = c.loop-low.low + (c.loop-low.high - c.loop-low.low) / 2 in
    let size : ℕ = c.loop-low.high - c.loop-low.low in
    let h : 2 ^ (c.loop-low.probes + 1 - c.args.probes.now) * (middle - c.loop-low.low) ≤ length bs = halved c.loop-low.probes c.args.probes.now size (middle - c.loop-low.low) (length bs) inv.counts (omega arith) inv.halves in
    let k : 2 ^ (c.loop-low.probes + 1 - c.args.probes.now) ≤ 2 * length bs + 1 = looked c.loop-low.probes c.args.probes.now size (length bs) inv.counts (omega arith) inv.halves in
    let count = c.count.ensures in
    let lt : middle < length bs = omega (arith, inv.inside, c.loop-low-test.true) in
    let begin : (d : List Span) → c.begin_at-begin.result ≡ begins_at (get_or bs middle d) = λ d. c.begin_at-begin.ensures.same ∙ ap begins_at (get_or_default bs middle [] d lt) in
    record {
      ordered = omega arith;
      inside = omega (arith, inv.inside);
      before = inv.before;
      behind = λ i d from lt.
          let up = begins_upward 0 middle i bs d d c.requires.filled c.requires.ascending from lt in
          omega (arith, up, begin d, c.if-begin-page.false);
      next = c.begin_at-begin.ensures.same;
      in_range = c.begin_at-begin.ensures.in_range;
      counts = omega (arith, inv.counts, count);
      halves = rw count h;
      cost = rw count k;
    }

pub returns-clause-before : goal.returns-clause-before
returns-clause-before g c =
    let inv = c.loop-low.invariant in
    record {
      inside = omega (arith, inv.ordered, inv.inside);
      before = λ i d lt. inv.before i d lt;
      behind = above_page 0 c.args.page c.loop-low.low c.args.blocks.now.list c.requires.filled c.requires.ascending (λ d lt. inv.behind c.loop-low.low d (omega (arith, c.loop-low-test.false)) lt);
    }

pub returns-clause-next : goal.returns-clause-next
returns-clause-next g c =
    let inv = c.loop-low.invariant in
    let on : c.loop-low.high ≡ c.loop-low.low = omega (arith, inv.ordered, c.loop-low-test.false) in
    inv.next ∙ ap (λ (k : ℕ). begins_at (get_or c.args.blocks.now.list k [])) on
