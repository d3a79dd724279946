use Rattle.std.proofs.Common.{◌≡◌, ◌∙◌, ℕ, ◌+◌, ◌-◌, ◌*◌, ◌<◌, true, [], List, length, get_or, drop, sym, ap, subst, arith}
use Rattle.spans.specs.Spans.{Span, ascend}
use Rattle.spans.specs.Search.{IsSegment, begins_at}
use Rattle.spans.specs.Blocks.{all_spans}
use Rattle.spans.proofs.Stacked.{block_ascends, fewer_blocks, filled_at}
use Rattle.spans.proofs.Halving.{both-looked, next-ascends, next-behind, next-border, segment-block, segment-none}
use Rattle.spans.proofs.place.segment.Goals as goal

pub returns-then-count-eq0-clause-segment : goal.returns-then-count-eq0-clause-segment
returns-then-count-eq0-clause-segment g c =
    let bs = c.args.blocks.now.list in
    let page = c.args.page in
    let e = c.find_before-count.ensures in
    let count = c.find_before-count.result.count in
    let next = c.find_before-count.result.next in
    let behind = next-behind bs count next c.requires e.next (c.number.result + 1) e.before.behind (omega (arith, c.number.ensures.in_range)) in
    let before : page < next = omega (arith, behind, c.number.ensures.same) in
    segment-none page next (all_spans bs) (subst (λ (k : ℕ). ascend next (all_spans (drop k bs)) ≡ true) c.if-count-eq0.true (next-ascends bs count next c.requires e.next)) before e.in_range (next-border bs count next c.requires e.next)

pub returns-then-count-eq0-clause-cost : goal.returns-then-count-eq0-clause-cost
returns-then-count-eq0-clause-cost g c = let fewer = fewer_blocks c.args.blocks.now.list c.requires.filled in omega (arith, fewer, c.find_before-count.ensures.cost)

pub segment_in-segment-requires : goal.segment_in-segment-requires
segment_in-segment-requires g c =
    let bs = c.args.blocks.now.list in
    let i : ℕ = c.find_before-count.result.count - 1 in
    let d = c.block.result.now in
    ap (ascend 0) (c.spans.ensures.same ∙ c.block.ensures.block d) ∙ block_ascends bs i d c.requires (omega (arith, c.find_before-count.ensures.before.inside, c.if-count-eq0.false))

pub returns-clause-segment : goal.returns-clause-segment
returns-clause-segment g c =
    let bs = c.args.blocks.now.list in
    let page = c.args.page in
    let e = c.find_before-count.ensures in
    let count = c.find_before-count.result.count in
    let next = c.find_before-count.result.next in
    let behind = next-behind bs count next c.requires e.next (c.number.result + 1) e.before.behind (omega (arith, c.number.ensures.in_range)) in
    let before : page < next = omega (arith, behind, c.number.ensures.same) in
    let i : ℕ = count - 1 in
    let d = c.block.result.now in
    let on : count ≡ i + 1 = omega (arith, c.if-count-eq0.false) in
    let lt : i < length bs = omega (arith, e.before.inside, on) in
    let block : c.spans.result.now ≡ get_or bs i d = c.spans.ensures.same ∙ c.block.ensures.block d in
    let segment = c.segment_in-segment.result in
    let here : IsSegment (get_or bs i d) page segment = subst (λ (l : List Span). IsSegment l page segment) block c.segment_in-segment.ensures.segment in
    let from = e.before.before i d (omega (arith, on)) in
    let is : next ≡ begins_at (get_or bs (i + 1) []) = e.next ∙ ap (λ (k : ℕ). begins_at (get_or bs k [])) on in
    subst (λ (k : ℕ). IsSegment (all_spans bs) page (record { value = segment.value; end = k })) (sym c.min.ensures)
    (segment-block bs i page next d segment c.requires lt (omega (arith, from, c.number.ensures.same)) is before here)

pub returns-clause-cost : goal.returns-clause-cost
returns-clause-cost g c =
    let bs = c.args.blocks.now.list in
    let page = c.args.page in
    let e = c.find_before-count.ensures in
    let count = c.find_before-count.result.count in
    let next = c.find_before-count.result.next in
    let behind = next-behind bs count next c.requires e.next (c.number.result + 1) e.before.behind (omega (arith, c.number.ensures.in_range)) in
    let before : page < next = omega (arith, behind, c.number.ensures.same) in
    let i : ℕ = count - 1 in
    let d = c.block.result.now in
    let on : count ≡ i + 1 = omega (arith, c.if-count-eq0.false) in
    let lt : i < length bs = omega (arith, e.before.inside, on) in
    let block : c.spans.result.now ≡ get_or bs i d = c.spans.ensures.same ∙ c.block.ensures.block d in
    let fewer = fewer_blocks bs c.requires.filled in
    let long = ap length block in
    let short = (filled_at i bs d c.requires.filled lt).1 in
    both-looked c.segment_in-segment.new.probes c.find_before-count.new.probes c.args.probes.now 8 (2 * length bs + 1) (2 * length c.spans.result.now + 1) (2 * length (all_spans bs) + 1)
    e.counts c.segment_in-segment.ensures.counts e.cost c.segment_in-segment.ensures.cost (omega (arith, long, short)) (omega (arith, fewer))
