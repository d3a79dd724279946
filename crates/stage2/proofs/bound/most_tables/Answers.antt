use Rattle.stage2.proofs.Names.{View, edited, view_in, gigabyte_growth, nat_tests, common_steps, ℕ, ◌-◌, inr, arith}
use Rattle.stage2.proofs.Counting.Growth.{growth-nothing}
use Rattle.stage2.proofs.Editing.ChunkByChunk.{sum_below-more}
use Rattle.stage2.proofs.Editing.GigabyteByGigabyte.{grow-sum}
use Rattle.stage2.proofs.Runs.Spans.{sum_below-none, sum_below-tail, outside-gigabytes}
use Rattle.stage2.proofs.bound.most_tables.Goals as goal

pub loop-number-init : goal.loop-number-init
loop-number-init g c = grind (arith, common_steps, nat_tests, sum_below-none, growth-nothing, outside-gigabytes)

pub loop-number-preserved : goal.loop-number-preserved
loop-number-preserved g c = grind (arith, common_steps, nat_tests, sum_below-more)

pub returns : goal.returns
returns g c =
    let before : ℕ → View = view_in c.args.edit.now.layout.now c.args.edit.now.row (g.M.TableMem.state c.args.memory.now) in
    let runs = c.args.runs.now in
    let access = c.args.edit.now.access in
    let grows : ℕ → ℕ = gigabyte_growth before (edited runs access before) in
    let span = c.gigabyte_span-span.result in
    let i = c.loop-number.number in
    let tail = sum_below-tail grows i 512 (omega (arith, c.gigabyte_span-span.ensures.most, c.loop-number.auto.number-end c.gigabyte_span-span.ensures.ordered)) (λ x from to. growth-nothing runs access before x (λ n at. outside-gigabytes runs span.first span.end n c.gigabyte_span-span.ensures.within (inr (omega (arith, from, at, c.loop-number-test.false))))) in
    omega (arith, c.loop-number.invariant.most, tail, grow-sum before (edited runs access before))
