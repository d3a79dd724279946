use Rattle.stage2.proofs.Names.{nat_tests, end_from, common_steps, ltb-true, ◌≡◌, ◌/◌, ◌≤◌, ap, sym, ◌∙◌, arith}
use Rattle.stage2.proofs.Runs.Normal.{any-within, normal-within}
use Rattle.stage2.proofs.Editing.GigabyteByGigabyte.{touched}
use Rattle.stage2.proofs.level1.only_gigabyte.Goals as goal

pub returns-then-end_of_last-end : goal.returns-then-end_of_last-end
returns-then-end_of_last-end c =
    let runs = c.args.runs.now in
    let run = c.in_ok-run.run'.now in
    let normal = rw c.list.ensures.same at c.list.ensures.normal in
    let some = rw c.list.ensures.same at (ltb-true _ _ (sym c.in_ok-run.ensures.item.0)) in
    let first = rw c.list.ensures.same at c.in_ok-run.ensures.item.1 in
    let gigabyte = c.of-gigabyte.result in
    let at : gigabyte ≡ run.first / 512 / 512 = c.of-gigabyte.ensures ∙ ap (λ n. n / 512 / 512) c.first-2.ensures.same in
    let is = c.first-2.ensures.in_range in
    let size = is.0 in
    let last : end_from 0 runs ≤ c.end_of_last.result = omega (arith, c.end_of_last.ensures.same) in
    let within = normal-within runs run c.end_of_last.result normal some first last in
    record {
      below = omega (arith, at, size, is.1);
      touched = touched runs 0 gigabyte run some first is (omega (arith, at)) (omega (arith, at, size));
      only = λ n covered. grind (arith, common_steps, nat_tests, any-within);
    }
