use Rattle.stage2.proofs.Names.{option_map_or, PageRun, part_in, part_count, nat_tests, common_steps, ◌≡◌, [], ◌∷◌, arith}
use Rattle.stage2.proofs.Runs.Parts.{sum-take}
use Rattle.stage2.proofs.Counting.Pieces.{pages_among-le, pages-none, pages-more}
use Rattle.stage2.proofs.parts.count_pieces.Goals as goal

pub loop-run-init : goal.loop-run-init
loop-run-init c = grind (arith, common_steps, nat_tests, pages-none c.args.chunk c.list-list.result.now)

pub overflow_add-pieces : goal.overflow_add-pieces
overflow_add-pieces c = grind (arith, common_steps, nat_tests, pages_among-le)

pub loop-run-preserved : goal.loop-run-preserved
loop-run-preserved c =
    let runs = c.list-list.result.now in
    let i = c.loop-run.run-index in
    let run = c.run-item-in-loop-run.result in
    let chunk = c.args.chunk in
    let pages = pages-more runs i chunk run c.list-list.ensures.normal c.loop-run-test.true c.run-item-in-loop-run.is in
    let so = c.loop-run.invariant in
    let piece = c.piece_of-piece.ensures in
    let own : part_count chunk (run ∷ []) ≡ option_map_or (λ (part : PageRun). 1) (part_in chunk run) 0 = omega arith in
    record {
      pages = omega (arith, so.pages, pages, piece.pages);
      runs = omega (arith, so.runs, sum-take (λ run. option_map_or (λ (part : PageRun). 1) (part_in chunk run) 0) runs i run c.loop-run-test.true c.run-item-in-loop-run.is, piece.runs, own);
      few = omega (arith, so.few, piece.few);
    }

pub returns-clause-most : goal.returns-clause-most
returns-clause-most c = grind (arith, common_steps, nat_tests, pages_among-le)
