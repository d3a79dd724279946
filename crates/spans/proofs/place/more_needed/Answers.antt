use Rattle.std.proofs.Common.{◌≡◌, ◌∙◌, ℕ, ◌+◌, ◌-◌, ◌<◌, length, get_or, take, [], sym, ap, arith}
use Rattle.std.proofs.lemmas.List.{length-take, take_all, take-take}
use Rattle.spans.specs.Blocks.{needed, more_blocks}
use Rattle.spans.proofs.Needs.{first-needed, some-needed, needed-none, needed-most, group-needs, group-left}
use Rattle.spans.proofs.Runs.{firsts_ascend, firsts_taken}
use Rattle.spans.proofs.place.more_needed.Goals as goal

pub loop-left-init : goal.loop-left-init
loop-left-init c = record { left = omega arith; sum = (let same = ap (needed c.args.blocks.now.list) (take_all (length c.args.runs.now) c.args.runs.now (omega arith)) in omega (arith, same)) }

pub slice_bounds-last_group-end : goal.slice_bounds-last_group-end
slice_bounds-last_group-end c = let l = length-take c.loop-left.left c.args.runs.now in omega (arith, l, c.loop-left.invariant.left)

pub last_group-place-requires-clause-runs : goal.last_group-place-requires-clause-runs
last_group-place-requires-clause-runs c = let l = length-take c.loop-left.left c.args.runs.now in omega (arith, l, c.loop-left.invariant.left, c.loop-left-test.true)

pub last_group-place-requires-clause-firsts : goal.last_group-place-requires-clause-firsts
last_group-place-requires-clause-firsts c = firsts_taken c.loop-left.left c.args.runs.now (firsts_ascend 0 c.args.runs.now c.requires.rise)

-- of the runs that are left
step : (c : goal.After-spans) → (needed c.args.blocks.now.list (take c.loop-left.left c.args.runs.now) ≡ needed c.args.blocks.now.list (take c.last_group-place.result.from c.args.runs.now) + more_blocks (length c.block.result.now) (c.loop-left.left - c.last_group-place.result.from)) × (c.last_group-place.result.from < c.loop-left.left)
step c =
    let bs = c.args.blocks.now.list in
    let runs = c.args.runs.now in
    let left = c.loop-left.left in
    let g = c.last_group-place.result in
    let d = c.block.result.now in
    let e = c.last_group-place.ensures in
    let l = length-take left runs in
    let long : length (take left runs) ≡ left = omega (arith, l, c.loop-left.invariant.left) in
    let needs = group-needs bs (take left runs) g d e.group c.requires.stacked.filled c.requires.stacked.ascending e.place e.from in
    let others = group-left bs (take left runs) g d e.group c.requires.stacked.filled c.requires.stacked.ascending e.place e.from in
    let fewer : take g.from (take left runs) ≡ take g.from runs = take-take g.from left runs (omega (arith, e.from, long)) in
    let block = ap length (c.block.ensures.block d) in (
      needs ∙ ap (λ k. k + more_blocks (length (get_or bs g.place d)) (length (take left runs) - g.from)) (sym others ∙ ap (needed bs) fewer)
          ∙ ap (λ k. needed bs (take g.from runs) + more_blocks k (length (take left runs) - g.from)) (sym block)
          ∙ ap (λ k. needed bs (take g.from runs) + more_blocks (length d) (k - g.from)) long,
      omega (arith, e.from, long),
    )

pub overflow_add-need-in-loop-left : goal.overflow_add-need-in-loop-left
overflow_add-need-in-loop-left c =
    let inv = c.loop-left.invariant in
    let most = needed-most c.args.blocks.now.list c.args.runs.now c.requires.stacked.filled in
    (let spans = ap length c.spans.ensures.same in omega (arith, inv.sum, (step c).0, spans, most))

pub loop-left-preserved : goal.loop-left-preserved
loop-left-preserved c =
    let inv = c.loop-left.invariant in
    record {
      left = omega (arith, inv.left, (step c).1);
      sum = (let spans = ap length c.spans.ensures.same in omega (arith, inv.sum, (step c).0, spans));
    }

all_needed : (c : goal.After-loop-left) → c.loop-left.need ≡ needed c.args.blocks.now.list c.args.runs.now
all_needed c =
    let inv = c.loop-left.invariant in
    let zero_left : c.loop-left.left ≡ 0 = omega (arith, c.loop-left-test.false) in
    let none = needed-none c.args.blocks.now.list c.requires.stacked.filled in
    let at : needed c.args.blocks.now.list (take c.loop-left.left c.args.runs.now) ≡ needed c.args.blocks.now.list [] = ap (λ (k : ℕ). needed c.args.blocks.now.list (take k c.args.runs.now)) zero_left in
    omega (arith, inv.sum, none, at)

pub returns-clause-same : goal.returns-clause-same
returns-clause-same c = all_needed c ∙ some-needed c.args.blocks.now.list c.args.runs.now (omega (arith, c.len.ensures, c.if-len-eq0.false))

pub returns-clause-most : goal.returns-clause-most
returns-clause-most c =
    let most = needed-most c.args.blocks.now.list c.args.runs.now c.requires.stacked.filled in
    let all = all_needed c in
    omega (arith, most, all)

pub returns-then-len-eq0-clause-same : goal.returns-then-len-eq0-clause-same
returns-then-len-eq0-clause-same c = first-needed c.args.blocks.now.list c.args.runs.now (omega (arith, c.len.ensures, c.if-len-eq0.true)) c.requires.some
