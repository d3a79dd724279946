use Rattle.pool.proofs.FirstRuns.{take-all}
use Rattle.stage2.proofs.Counting.FewOperations.{run-pages}
use Rattle.stage2.proofs.Counting.Pieces.{pages_among-le, pages-none, pages-more}
use Rattle.stage2.proofs.bound.count_pages.Goals as goal
use Rattle.stage2.proofs.Names.{nat_tests, common_steps, arith}

pub loop-run-init : goal.loop-run-init
loop-run-init c = record { pages = λ chunk. let none = pages-none chunk c.list-list.result.now in omega (arith, none) }

pub loop-run-preserved : goal.loop-run-preserved
loop-run-preserved c = record {
  pages = λ chunk. grind (arith, common_steps, nat_tests, pages-more c.list-list.result.now c.loop-run.run-index chunk c.run-item-in-loop-run.result c.list-list.ensures.normal c.loop-run-test.true c.run-item-in-loop-run.is, run-pages c.run-item-in-loop-run.result chunk, pages_among-le);
}

pub returns : goal.returns
returns c = λ chunk. grind (arith, common_steps, nat_tests, take-all c.list-list.result.now c.loop-run.run-index c.loop-run-test.false c.loop-run.auto.run-index-end)

pub returns-in-len1 : goal.returns-in-len1
returns-in-len1 c = λ chunk.
    let list = c.list-list.result.now in
    let run = c.run-item.result in
    grind (arith, common_steps, nat_tests, pages-more list 0 chunk run c.list-list.ensures.normal c.in-len1.len_at_least c.run-item.is, pages-none chunk list, take-all, run-pages run chunk)
