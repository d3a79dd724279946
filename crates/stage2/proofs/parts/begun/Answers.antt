use Rattle.stage2.proofs.Names.{nat_tests, PageRun, get_or_read, ◌≤◌, ltb, get_or, ap, arith, rules}
use Rattle.std.proofs.lemmas.List.Sorted.{IsPartitionPoint-from_clause, IsPartitionedBy-ltb}
use Rattle.stage2.proofs.Runs.Normal.{first_of, firsts-rise}
use Rattle.stage2.proofs.Runs.Between.{before-halved}
use Rattle.stage2.proofs.parts.begun.Goals as goal

pub returns-then-end-number-clause-same : goal.returns-then-end-number-clause-same
returns-then-end-number-clause-same c =
    let runs = c.args.runs.now in
    before-halved c.args.end runs c.loop-index.index (λ k d lt _. c.loop-index.invariant.before k d lt)
    (λ k d le small. let rises = firsts-rise runs c.requires c.loop-index.index k d le small in let here = ap first_of (get_or_read runs c.loop-index.index c.index-runs-index.result (omega (arith, le, small)) c.index-runs-index.is d) in
    let late : c.args.end ≤ first_of (get_or runs k d) = omega (arith, rises, here, c.number.ensures.same, c.first.ensures.same, c.if-end-number.true) in grind (arith, nat_tests, late))

pub returns-clause-same : goal.returns-clause-same
returns-clause-same c =
    let runs = c.args.runs.now in
    let n = c.partition_point.result in
    let point = IsPartitionPoint-from_clause (λ (r : PageRun). ltb (first_of r) c.args.end) runs n c.partition_point.ensures.partitioned (IsPartitionedBy-ltb first_of runs c.args.end (firsts-rise runs c.requires)) (λ a r f k. search rules) in
    before-halved c.args.end runs n (λ k d lt _. point.0 k d (omega arith) lt) (λ k d le small. point.1 k d le small)
