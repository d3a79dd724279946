use Rattle.pool.proofs.Names.{nat_tests, common_steps, index_from, gap, gaps_from, ◌+◌, drop, max, ap, ◌∙◌, arith, refl}
use Rattle.pool.proofs.Gaps.{gaps-left, covers-append, gap-at, gap-has}
use Rattle.pool.proofs.looks.are_gaps_there.Goals as goal
use Rattle.pool.proofs.Names.{at_drop_all}
use Rattle.pool.proofs.Gaps.{gaps-none}

pub returns-then-not-is_gap_there-clause-no : goal.returns-then-not-is_gap_there-clause-no
returns-then-not-is_gap_there-clause-no g c =
    λ _.
    let start = c.args.with.start in
    let end_at = c.index_from-end.ensures ∙ ap (index_from start) (c.number.ensures.same ∙ c.first.ensures.same) in
    let there = gaps-left start c.loop-run.first c.index_from-end.result _ c.loop-run.run-index c.args.runs.now c.run-item.result c.loop-run-test.true c.run-item.is end_at refl in
    let missing = c.is_gap_there.ensures.no c.if-not-is_gap_there.true in
    record {
      index = missing.0;
      small = omega (arith, missing.2, c.index_from-end.ensures);
      gap = c.loop-run.invariant.left (start + missing.0) (grind (arith, nat_tests, there, covers-append, gap-has start c.loop-run.first c.index_from-end.result missing.0 missing.1 missing.2));
      other = missing.3;
    }

pub loop-run-preserved : goal.loop-run-preserved
loop-run-preserved g c =
    let start = c.args.with.start in
    let first = c.loop-run.first in
    let before = c.loop-run.invariant in
    let here = gap start first c.index_from-end.result in
    let behind = drop (c.loop-run.run-index + 1) c.args.runs.now in
    let end_at = c.index_from-end.ensures ∙ ap (index_from start) (c.number.ensures.same ∙ c.first.ensures.same) in
    let next = c.max-first.ensures ∙ ap (λ e. max first e) (c.index_from.ensures ∙ ap (index_from start) c.end.ensures.same) in
    let there = gaps-left start first c.index_from-end.result c.max-first.result c.loop-run.run-index c.args.runs.now c.run-item.result c.loop-run-test.true c.run-item.is end_at next in
    record {
      left = λ n t. before.left n (grind (arith, nat_tests, there, covers-append here (gaps_from start c.max-first.result behind) n, t));
      done = λ i small gapped out. grind (arith, nat_tests, there, covers-append here (gaps_from start c.max-first.result behind) (start + i), gap-at start first c.index_from-end.result (start + i), c.is_gap_there.ensures.yes c.if-not-is_gap_there.false i, before.done i small gapped);
      most = (let low = before.most in omega (arith, low, c.max-first.ensures, c.index_from.ensures));
    }

pub returns-clause-yes : goal.returns-clause-yes
returns-clause-yes g c = grind (arith, common_steps, nat_tests, at_drop_all, gaps-none, gap-at)

pub returns-clause-no : goal.returns-clause-no
returns-clause-no g c = grind (arith, common_steps, nat_tests, at_drop_all, gaps-none, gap-has)
