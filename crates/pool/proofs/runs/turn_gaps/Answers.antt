use Rattle.pool.proofs.Names.{nat_tests, common_steps, index_from, gap, gaps_from, ◌+◌, ◌≤◌, [], drop, max, refl, ap, ◌∙◌, arith}
use Rattle.std.proofs.lemmas.List.{append-nil}
use Rattle.pool.proofs.Gaps.{gaps-left, gaps-behind}
use Rattle.pool.proofs.Wrote.{left-can, left-less, left-none, can-gap, wrote-gap, wrote-beside, turned-rest}
use Rattle.pool.proofs.runs.turn_gaps.Goals as goal
use Rattle.pool.proofs.Names.{at_drop_all}
use Rattle.pool.proofs.Gaps.{gaps-none}

pub write_apart-log-requires : goal.write_apart-log-requires
write_apart-log-requires g c =
    let w = c.args.with in
    let first = c.loop-run.first in
    let end = c.index_from-end.result in
    let before = c.loop-run.invariant in
    let end_at = c.index_from-end.ensures ∙ ap (index_from w.start) (c.number.ensures.same ∙ c.first.ensures.same) in
    let parts = gaps-left w.start first end _ c.loop-run.run-index c.args.runs.now c.run-item.result c.loop-run-test.true c.run-item.is end_at refl in
    can-gap first end (omega (arith, c.index_from-end.ensures)) (left-can before.left (gap w.start first end) _ parts c.requires before.standing (λ _. before.turned))

pub loop-run-preserved : goal.loop-run-preserved
loop-run-preserved g c =
    let w = c.args.with in
    let first = c.loop-run.first in
    let end = c.index_from-end.result in
    let next = c.max-first.result in
    let before = c.loop-run.invariant in
    let behind = drop (c.loop-run.run-index + 1) c.args.runs.now in
    let here = gap w.start first end in
    let rest = gaps_from w.start next behind in
    let next_at = c.max-first.ensures ∙ ap (λ e. max first e) (c.index_from.ensures ∙ ap (index_from w.start) c.end.ensures.same) in
    let end_at = c.index_from-end.ensures ∙ ap (index_from w.start) (c.number.ensures.same ∙ c.first.ensures.same) in
    let parts = gaps-left w.start first end next c.loop-run.run-index c.args.runs.now c.run-item.result c.loop-run-test.true c.run-item.is end_at next_at in
    let small : end ≤ 512 = omega (arith, c.index_from-end.ensures) in
    let wrote = c.write_apart-log.ensures.wrote in
    record {
      left = left-less before.left here rest parts (wrote-gap w first end small wrote);
      standing = c.write_apart-log.ensures.standing ∙ before.standing;
      turned = turned-rest (g.S.WordStore.words c.loop-run.store) (g.S.WordStore.words c.write_apart-log.new.store) w here rest (rw parts at before.turned) (λ i within.
          let from = gaps-behind w.start behind next (w.start + i) within in
          wrote-beside w first end _ i wrote (omega (arith, before.left.whole, c.requires.may.page_in.inside)) before.most small (omega (arith, from, next_at)) (omega (arith, from, next_at, end_at)));
      most = omega (arith, before.most, next_at);
    }

pub write_apart-requires : goal.write_apart-requires
write_apart-requires g c = grind (arith, common_steps, nat_tests, at_drop_all, gaps-none, append-nil, can-gap, left-can)

pub returns-clause-wrote : goal.returns-clause-wrote
returns-clause-wrote g c =
    left-none (left-less c.loop-run.invariant.left (gap c.args.with.start c.loop-run.first 512) [] (grind (arith, common_steps, at_drop_all, gaps-none)) (wrote-gap c.args.with c.loop-run.first 512 (omega arith) c.write_apart.ensures.wrote)) refl
