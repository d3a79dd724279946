use Rattle.std.proofs.Common.{◌≡◌, ◌∙◌, ℕ, suc, [], ◌+◌, ◌-◌, ◌*◌, ◌/◌, ◌^◌, ◌<◌, ◌≤◌, ◌++◌, ◌∷◌, true, List, length, take, drop, get_or, sym, ap, subst, arith}
use Rattle.std.proofs.lemmas.List.{take-append-drop}
use Rattle.spans.specs.Spans.{Span, end_of, ascend, end_from}
use Rattle.spans.specs.Search.{IsSegment}
use Rattle.spans.proofs.Ascending.{ascend-dropped, end_from-take}
use Rattle.spans.proofs.Halving.{halved, looked, segment-more, segment-behind}
use Rattle.spans.proofs.Lists.{drop-cons-at}
use Rattle.spans.proofs.find.segment_in.Goals as goal

pub loop-low-preserved-then-end-number : goal.loop-low-preserved-then-end-number
loop-low-preserved-then-end-number g c =
    let ss = c.args.spans.now in
    let inv = c.loop-low.invariant in
    let middle : ℕ = c.loop-low.low + (c.loop-low.high - c.loop-low.low) / 2 in
    let size : ℕ = c.loop-low.high - c.loop-low.low in
    let inside : middle < length ss = omega (arith, inv.inside, c.loop-low-test.true) in
    let s = c.index-spans-middle.result in
    let end : c.end.result ≡ end_of s.run = c.end.ensures.same ∙ ap (λ (x : Span). end_of x.run) c.span.view_is in
    let k : 2 ^ (c.loop-low.probes + 1 - c.args.probes.now) ≤ 2 * length ss + 1 = looked c.loop-low.probes c.args.probes.now size (length ss) inv.counts (omega (arith, c.loop-low-test.true)) inv.halves in
    let h : 2 ^ (c.loop-low.probes + 1 - c.args.probes.now) * (c.loop-low.high - (middle + 1)) ≤ length ss = halved c.loop-low.probes c.args.probes.now size (c.loop-low.high - (middle + 1)) (length ss) inv.counts (omega arith) inv.halves in
    record {
      ordered = omega (arith, c.loop-low-test.true);
      inside = inv.inside;
      below = ends_at ss middle c.args.page s inside c.index-spans-middle.is (omega (arith, end, c.if-end-number.true, c.number.ensures.same));
      segment = inv.segment;
      counts = omega (arith, inv.counts, c.count.ensures);
      halves = rw c.count.ensures h;
      cost = rw c.count.ensures k;
    }
  where
    ends_at : (ss : List Span) (m page : ℕ) (s : Span) → m < length ss → s ≡ get_or ss m s → end_of s.run ≤ page → end_from 0 (take (m + 1) ss) ≤ page
    ends_at ss m page s lt is le =
        let e = end_from-take 0 m ss s lt in
        let same = ap (λ (x : Span). end_of x.run) is in
        let on : m + 1 ≡ suc m = omega arith in
        let same_end = ap (λ (k : ℕ). end_from 0 (take k ss)) on in
        omega (arith, e, same, same_end, le)

pub loop-low-preserved : goal.loop-low-preserved
loop-low-preserved g c =
    let ss = c.args.spans.now in
    let inv = c.loop-low.invariant in
    let middle : ℕ = c.loop-low.low + (c.loop-low.high - c.loop-low.low) / 2 in
    let size : ℕ = c.loop-low.high - c.loop-low.low in
    let inside : middle < length ss = omega (arith, inv.inside, c.loop-low-test.true) in
    let s = c.index-spans-middle.result in
    let end : c.end.result ≡ end_of s.run = c.end.ensures.same ∙ ap (λ (x : Span). end_of x.run) c.span.view_is in
    let k : 2 ^ (c.loop-low.probes + 1 - c.args.probes.now) ≤ 2 * length ss + 1 = looked c.loop-low.probes c.args.probes.now size (length ss) inv.counts (omega (arith, c.loop-low-test.true)) inv.halves in
    let h : 2 ^ (c.loop-low.probes + 1 - c.args.probes.now) * (middle - c.loop-low.low) ≤ length ss = halved c.loop-low.probes c.args.probes.now size (middle - c.loop-low.low) (length ss) inv.counts (omega arith) inv.halves in
    let here : drop middle ss ≡ s ∷ drop (middle + 1) ss = drop-cons-at ss middle s inside ∙ ap (λ (x : Span). x ∷ drop (middle + 1) ss) (sym c.index-spans-middle.is) in
    let up : ascend 0 (s ∷ drop (middle + 1) ss) ≡ true = ap (ascend 0) (sym here) ∙ ascend-dropped middle ss c.requires in
    let segment = c.segment_of-segment.result in
    let e = c.segment_of-segment.ensures in
    let alone : IsSegment (s ∷ []) c.args.page segment = subst (λ (k : ℕ). IsSegment (s ∷ []) k segment) c.number-else-end-number.ensures.same e.segment in
    record {
      ordered = omega arith;
      inside = omega (arith, inside);
      below = inv.below;
      segment = subst (λ (l : List Span). IsSegment l c.args.page segment) (sym here) (segment-more 0 c.args.page s (drop (middle + 1) ss) segment up alone e.inside);
      counts = omega (arith, inv.counts, c.count.ensures);
      halves = rw c.count.ensures h;
      cost = rw c.count.ensures k;
    }

pub returns-clause-segment : goal.returns-clause-segment
returns-clause-segment g c =
    let ss = c.args.spans.now in
    let inv = c.loop-low.invariant in
    let on : c.loop-low.high ≡ c.loop-low.low = omega (arith, inv.ordered, c.loop-low-test.false) in
    let whole : take c.loop-low.low ss ++ drop c.loop-low.low ss ≡ ss = take-append-drop c.loop-low.low ss in
    subst (λ (l : List Span). IsSegment l c.args.page c.loop-low.segment) whole
    (segment-behind c.args.page (take c.loop-low.low ss) (drop c.loop-low.low ss) c.loop-low.segment (ap (ascend 0) whole ∙ c.requires) inv.below
    (subst (λ (k : ℕ). IsSegment (drop k ss) c.args.page c.loop-low.segment) on inv.segment))
