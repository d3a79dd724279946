use Rattle.stage2.proofs.Names.{nat_tests, PageRun, get_or_read, ◌<◌, leb, get_or, ap, arith, rules}
use Rattle.std.proofs.lemmas.List.Sorted.{IsPartitionPoint-from_clause, IsPartitionedBy-leb}
use Rattle.stage2.proofs.Runs.Normal.{end_of, ends-rise}
use Rattle.stage2.proofs.Runs.Between.{past-halved}
use Rattle.stage2.proofs.parts.ended.Goals as goal

pub returns-then-first-end-clause-same : goal.returns-then-first-end-clause-same
returns-then-first-end-clause-same c =
    let runs = c.args.runs.now in
    past-halved c.args.first runs c.loop-index.index (λ k d lt _. c.loop-index.invariant.before k d lt)
    (λ k d le small. let rises = ends-rise runs c.requires c.loop-index.index k d le small in let here = ap end_of (get_or_read runs c.loop-index.index c.index-runs-index.result (omega (arith, le, small)) c.index-runs-index.is d) in
    let behind : c.args.first < end_of (get_or runs k d) = omega (arith, rises, here, c.end.ensures.same, c.if-first-end.true) in grind (arith, nat_tests, behind))

pub returns-clause-same : goal.returns-clause-same
returns-clause-same c =
    let runs = c.args.runs.now in
    let n = c.partition_point.result in
    let past = IsPartitionPoint-from_clause (λ (r : PageRun). leb (end_of r) c.args.first) runs n c.partition_point.ensures.partitioned (IsPartitionedBy-leb end_of runs c.args.first (ends-rise runs c.requires)) (λ a r f k. search rules) in
    past-halved c.args.first runs n (λ k d lt _. past.0 k d (omega arith) lt) (λ k d le small. past.1 k d le small)
