use Rattle.stage2.proofs.Names.{nat_tests, runs_past, get_or_read, ◌<◌, get_or, ap, ◌∙◌, arith}
use Rattle.stage2.proofs.Runs.Between.{past-halved}
use Rattle.stage2.proofs.Runs.Normal.{end_of, ends-rise}
use Rattle.stage2.proofs.parts.runs_on.Goals as goal

pub returns-in-Some : goal.returns-in-Some
returns-in-Some c =
    let runs = c.list-list.result.now in
    c.of.ensures ∙ past-halved c.args.first runs 0 (λ k d lt _. absurd (omega (arith, lt)))
    (λ k d le small.
    let here = ap end_of (get_or_read runs 0 c.in-Some.run'.now (omega (arith, small)) c.in-Some.ensures.item.1 d) in
    let behind : c.args.first < end_of (get_or runs k d) = omega (arith, ends-rise runs c.list-list.ensures.normal 0 k d le small, here, c.end.ensures.same, c.if-first-end.true) in
    grind (arith, nat_tests, behind)) ∙ ap (runs_past c.args.first) c.list-list.ensures.same
