use Rattle.std.proofs.Common.{◌≡◌, ◌<◌, length, arith, ap, ◌∙◌, List, get_or}
use Rattle.base.specs.Pages.{PageRun}
use Rattle.pool.specs.Pool.{Pool}
use Rattle.rules.specs.Rule.{Edit}
use Rattle.spm.proofs.ClearingLemmas.{cleared-on}
use Rattle.spm.proofs.commit.clear_runs.Goals as goal

pub clear-requires : goal.clear-requires
clear-requires g c =
    let many : length c.deref-run-items.result.now ≡ length c.args.edit.now.runs = ap length (c.deref-run-items.ensures.value ∙ ap (λ (e : Edit). e.runs) c.edit.view_is) in
    let ready = c.requires.ready in
    let room = c.loop-run.invariant.room in
    let inside = c.loop-run-test.true in
    record { ready = omega (arith, many, ready, room, inside) }

pub loop-run-preserved : goal.loop-run-preserved
loop-run-preserved g c =
    let so_far = c.loop-run.invariant in
    let i = c.loop-run.run-index in
    let run = c.run-item.result in
    let runs : c.deref-run-items.result.now ≡ c.args.edit.now.runs = c.deref-run-items.ensures.value ∙ ap (λ (e : Edit). e.runs) c.edit.view_is in
    let inside : i < length c.args.edit.now.runs = let test = c.loop-run-test.true in let many = ap length runs in omega (arith, test, many) in
    let is : run ≡ get_or c.args.edit.now.runs i run = c.run-item.is ∙ ap (λ (rs : List PageRun). get_or rs i run) runs in
    record {
      layout = c.clear.ensures.layout ∙ so_far.layout;
      memory = ap (λ (p : Pool). p.memory) c.clear.ensures.pool ∙ so_far.memory;
      room = let one = c.clear.ensures.room in let before = so_far.room in omega (arith, one, before);
      listed = λ _. c.clear.ensures.canonical.listed;
      in_step = λ none entry at begun. cleared-on c.args.edit.now c.args.tables.now c.loop-run.tables c.clear.new.self i run inside is so_far.layout so_far.memory c.requires.clears c.clear.ensures.in_step none entry at (so_far.in_step none entry at begun);
    }
