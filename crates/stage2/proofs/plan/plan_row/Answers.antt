use Rattle.stage2.proofs.Names.{pages_of, edited, answers_of, gigabyte_operations, gigabyte_growth, Plan, View, covers, nat_tests, common_steps, ◌≡◌, ℕ, ◌+◌, ◌-◌, ◌*◌, ◌/◌, ◌≤◌, false, inr, sym, ap, ◌∙◌, arith}
use Rattle.stage2.proofs.Editing.ChunkByChunk.{sum_below-more}
use Rattle.stage2.proofs.Editing.GigabyteByGigabyte.{grow-sum}
use Rattle.stage2.proofs.Runs.Spans.{sum_below-none, sum_below-tail, outside-gigabytes}
use Rattle.stage2.proofs.Counting.Growth.{growth-nothing}
use Rattle.stage2.proofs.Runs.ChunkCounts.{operations-nothing}
use Rattle.stage2.proofs.Runs.OwnRuns.{gigabyte-covers, gigabyte-growth, gigabyte-operations}
use Rattle.stage2.proofs.plan.plan_row.Goals as goal
use Rattle.stage2.proofs.plan.plan_row.Goals.{then-touches, else-touches}

pub plan_gigabyte-more-requires-clause-touched : goal.plan_gigabyte-more-requires-clause-touched
plan_gigabyte-more-requires-clause-touched g c = c.touches.ensures.yes c.if-touches.true c.new-gigabyte.result c.args.runs.now c.gigabyte_runs-part.ensures

pub plan_gigabyte-more-requires-clause-turned : goal.plan_gigabyte-more-requires-clause-turned
plan_gigabyte-more-requires-clause-turned g c = λ yes n at covered. grind (arith, common_steps, nat_tests, gigabyte-covers)

pub loop-number-init : goal.loop-number-init
loop-number-init g c =
    record {
      tables = grind (arith, common_steps, nat_tests, sum_below-none, growth-nothing, outside-gigabytes);
      operations = grind (arith, common_steps, nat_tests, sum_below-none, operations-nothing, outside-gigabytes);
      few = let none : c.new-plan.result.tables ≡ 0 = ap (λ (p : Plan). p.tables) c.new-plan.ensures in omega (arith, none);
      most = let none : c.new-plan.result.operations ≡ 0 = ap (λ (p : Plan). p.operations) c.new-plan.ensures in omega (arith, none);
    }

pub loop-number-preserved : goal.loop-number-preserved
loop-number-preserved g c =
    let v : ℕ → View = answers_of c.args.edit.now.layout.now (pages_of (g.M.TableMem.state c.args.memory.now).memory).words c.args.edit.now.row in
    let runs = c.args.runs.now in
    let access = c.args.edit.now.access in
    let f : ℕ → ℕ = gigabyte_growth v (edited runs access v) in
    let h : ℕ → ℕ = gigabyte_operations runs access v in
    let i = c.loop-number.number in
    let tables = sum_below-more f i in
    let operations = sum_below-more h i in
    let so = c.loop-number.invariant in
    let part = c.gigabyte_runs-part.result in
    let here = c.new-gigabyte.ensures in
    let is = rw here at c.gigabyte_runs-part.ensures in
    elim c.if-touches.branch [
      | then-touches w ↦
          let grown : w.plan_gigabyte-more.result.tables ≡ f i = (rw here at w.plan_gigabyte-more.ensures.tables) ∙ gigabyte-growth i runs part access is v in
          let all : gigabyte_operations part access v i ≤ w.plan_gigabyte-more.result.operations = rw here at w.plan_gigabyte-more.ensures.operations in
          let made : h i ≤ w.plan_gigabyte-more.result.operations = omega (arith, all, gigabyte-operations i runs part is access v) in
          rw w.plan-is (record {
            tables = omega arith;
            operations = omega (arith, so.operations, made, operations);
            few = bound 513 c.loop-number.plan.tables w.plan_gigabyte-more.result.tables i so.few w.plan_gigabyte-more.ensures.few;
            most = bound 525826 c.loop-number.plan.operations w.plan_gigabyte-more.result.operations i so.most w.plan_gigabyte-more.ensures.most;
          })
      | else-touches w ↦
          let out : (n : ℕ) → n / 512 / 512 ≡ i → covers runs n ≡ false = λ n at. sym (gigabyte-covers i runs part is n at) ∙ c.touches.ensures.no w.if-touches.false n in
          let grown : f i ≡ 0 = growth-nothing runs access v i out in
          let made : h i ≡ 0 = operations-nothing runs access v i out in
          rw w.plan-is (record {
            tables = omega arith;
            operations = omega arith;
            few = let few = so.few in omega (arith, few);
            most = let most = so.most in omega (arith, most);
          })
    ]
  where
    bound : (k count one i : ℕ) → count ≤ k * i → one ≤ k → count + one ≤ k * (i + 1)
    bound k count one i a b = let more : k * (i + 1) ≡ k * i + k = omega arith in omega (arith, a, b, more)

pub returns : goal.returns
returns g c =
    let v : ℕ → View = answers_of c.args.edit.now.layout.now (pages_of (g.M.TableMem.state c.args.memory.now).memory).words c.args.edit.now.row in
    let runs = c.args.runs.now in
    let access = c.args.edit.now.access in
    let f : ℕ → ℕ = gigabyte_growth v (edited runs access v) in
    let h : ℕ → ℕ = gigabyte_operations runs access v in
    let so = c.loop-number.invariant in
    let i = c.loop-number.number in
    let most = c.gigabyte_span-span.ensures.most in
    let last : i ≤ c.gigabyte_span-span.result.end = c.loop-number.auto.number-end c.gigabyte_span-span.ensures.ordered in
    let none : (x : ℕ) → i ≤ x → (n : ℕ) → n / 512 / 512 ≡ x → covers runs n ≡ false =
    λ x from n at. outside-gigabytes runs c.gigabyte_span-span.result.first c.gigabyte_span-span.result.end n c.gigabyte_span-span.ensures.within (inr (omega (arith, from, at, c.loop-number-test.false))) in
    record {
      tables = so.tables ∙ sym (sum_below-tail f i 512 (omega (arith, most, last)) (λ x from to. growth-nothing runs access v x (none x from))) ∙ grow-sum v (edited runs access v);
      operations = omega (arith, so.operations, sum_below-tail h i 512 (omega (arith, most, last)) (λ x from to. operations-nothing runs access v x (none x from)));
      most = let few = so.most in omega (arith, few, last, most);
    }
