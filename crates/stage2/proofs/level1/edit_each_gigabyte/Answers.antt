use Rattle.stage2.proofs.Names.{covers, nat_tests, common_steps, ◌≡◌, ℕ, ◌+◌, ◌/◌, ◌<◌, ◌≤◌, false, sym, ◌∙◌, inr, arith}
use Rattle.stage2.proofs.Editing.UpToGigabyte.{row-start, row-ahead, row-done, row-can, row-next, part-touches, part-can, part-done}
use Rattle.stage2.proofs.Runs.OwnRuns.{gigabyte-covers}
use Rattle.stage2.proofs.Runs.Spans.{outside-gigabytes}
use Rattle.stage2.proofs.level1.edit_each_gigabyte.Goals as goal
use Rattle.stage2.proofs.level1.edit_each_gigabyte.Goals.{then-touches, else-touches}

pub edit_gigabyte-requires : goal.edit_gigabyte-requires
edit_gigabyte-requires g c =
    let here = c.new-gigabyte.ensures in
    let is = rw here at c.gigabyte_runs-part.ensures in
    let some = rw here at (c.touches.ensures.yes c.if-touches.true c.new-gigabyte.result c.args.runs.now c.gigabyte_runs-part.ensures) in
    rw here (part-can is (row-can c.loop-number.invariant.up_to (omega (arith, c.loop-number-test.true, c.gigabyte_span-span.ensures.most)) c.requires (part-touches is some)) some)

pub loop-number-init : goal.loop-number-init
loop-number-init g c = grind (arith, common_steps, nat_tests, row-ahead, row-start, outside-gigabytes)

pub loop-number-preserved : goal.loop-number-preserved
loop-number-preserved g c =
    let here = c.new-gigabyte.ensures in
    let is = rw here at c.gigabyte_runs-part.ensures in
    let so = c.loop-number.invariant.up_to in
    elim c.if-touches.branch [
      | then-touches w ↦ rw w.memory-is (record {
        up_to = row-next so (omega (arith, c.loop-number-test.true, c.gigabyte_span-span.ensures.most)) (part-done is (rw here at w.edit_gigabyte.ensures));
      })
      | else-touches w ↦ rw w.memory-is (record {
        up_to = row-ahead so (c.loop-number.number + 1) (omega arith) (omega (arith, c.loop-number-test.true, c.gigabyte_span-span.ensures.most))
            (λ n from to. sym (gigabyte-covers c.loop-number.number c.args.runs.now c.gigabyte_runs-part.result is n (omega (arith, from, to))) ∙ c.touches.ensures.no w.if-touches.false n);
      })
    ]

pub returns : goal.returns
returns g c =
    let within : c.loop-number.number ≤ 512 = omega (arith, c.loop-number.auto.number-end c.gigabyte_span-span.ensures.ordered, c.gigabyte_span-span.ensures.most) in
    let none : (n : ℕ) → c.loop-number.number ≤ n / 512 / 512 → n / 512 / 512 < 512 → covers c.args.runs.now n ≡ false = λ n from small. outside-gigabytes c.args.runs.now c.gigabyte_span-span.result.first c.gigabyte_span-span.result.end n c.gigabyte_span-span.ensures.within (inr (omega (arith, from, c.loop-number-test.false))) in
    row-done c.loop-number.invariant.up_to within none
