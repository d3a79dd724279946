use Rattle.stage2.proofs.Runs.ChunkCounts.{row-operations}
use Rattle.stage2.proofs.bound.most_operations.Goals as goal
use Rattle.stage2.proofs.Names.{nat_tests, common_steps, arith}

pub returns-clause-bound : goal.returns-clause-bound
returns-clause-bound c = λ before access. grind (arith, common_steps, nat_tests, row-operations c.args.runs.now c.bounds.result.first c.bounds.result.end c.bounds.ensures.within access before c.bounds.ensures.normal)
