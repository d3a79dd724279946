use Rattle.pool.proofs.Names.{nat_tests, common_steps, ◌+◌, [], ◌∷◌, drop, ◌∙◌, arith, inl, inr}
use Rattle.std.proofs.lemmas.Bool.{cases_lt}
use Rattle.pool.proofs.Gaps.{above, before-rise, rise-lower, rise-normal}
use Rattle.pool.proofs.Turned.{runs-left, runs-done}
use Rattle.pool.proofs.Wrote.{left-all, left-can, left-less, left-none, turned-rest, run-beside}
use Rattle.pool.proofs.runs.write_each.Goals as goal

pub loop-run-init : goal.loop-run-init
loop-run-init g c = grind (arith, common_steps, nat_tests, left-all, rise-normal)

pub write_run-log-requires : goal.write_run-log-requires
write_run-log-requires g c = grind (arith, nat_tests, left-can, runs-left)

pub loop-run-preserved : goal.loop-run-preserved
loop-run-preserved g c =
    let w = c.args.with in
    let run = c.run-item.result in
    let behind = drop (c.loop-run.run-index + 1) c.args.runs.now in
    let parts = runs-left c.args.runs.now c.loop-run.run-index run c.loop-run-test.true c.run-item.is in
    let before = c.loop-run.invariant in
    let up = (above run behind 0 (rw parts at before.up)).1 in
    record {
      left = left-less before.left (run ∷ []) behind parts c.write_run-log.ensures.wrote;
      standing = c.write_run-log.ensures.standing ∙ before.standing;
      turned = λ known. turned-rest (g.S.WordStore.words c.loop-run.store) (g.S.WordStore.words c.write_run-log.new.store) w (run ∷ []) behind (rw parts at (before.turned known)) (λ i within. elim (cases_lt (w.start + i) (run.first + run.count)) [
        | inl lt ↦ let none = before-rise behind (run.first + run.count) (w.start + i) up lt in absurd (cc)
        | inr past ↦ run-beside w run i c.write_run-log.ensures.wrote (omega (arith, before.left.whole, c.requires.can.may.page_in.inside)) (omega (arith, past))
      ]);
      up = rise-lower behind (run.first + run.count) 0 (omega arith) up;
    }

pub returns-clause-wrote : goal.returns-clause-wrote
returns-clause-wrote g c = grind (arith, nat_tests, left-none c.loop-run.invariant.left, runs-done)
