use Rattle.stage2.proofs.Counting.Bounds.{grow-most}
use Rattle.stage2.proofs.bound.most_growth.Goals as goal
use Rattle.stage2.proofs.Names.{nat_tests, common_steps, arith}

pub returns : goal.returns
returns c = λ before access.
    grind (arith, common_steps, nat_tests, grow-most c.args.runs.now access before c.bounds-pages.result.first c.bounds-pages.result.end c.bounds-pages.ensures.within)
