use Rattle.stage2.proofs.Names.{nat_tests, common_steps, arith}
use Rattle.stage2.proofs.Runs.Between.{between-parts}
use Rattle.stage2.proofs.parts.chunk_runs.Goals as goal

pub returns : goal.returns
returns c = grind (arith, common_steps, nat_tests, between-parts)
