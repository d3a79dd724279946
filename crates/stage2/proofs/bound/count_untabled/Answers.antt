use Rattle.stage2.proofs.Counting.Pieces.{count_below-between, count_below-fewer}
use Rattle.stage2.proofs.bound.count_untabled.Goals as goal
use Rattle.stage2.proofs.Names.{nat_tests, common_steps, arith}

pub returns-in-None-clause-counts : goal.returns-in-None-clause-counts
returns-in-None-clause-counts g c =
    grind (arith, common_steps, nat_tests, count_below-fewer, count_below-between c.args.chunks.first c.args.chunks.end 512 c.requires.ordered c.requires.most)
