use Rattle.pool.proofs.Names.{nat_tests, common_steps, arith}
use Rattle.manifest.proofs.Facts.{facts, row_of-id}
use Rattle.pool.proofs.identifiers.Identifiers.of.Goals as goal

pub invariant_of-result : goal.invariant_of-result
invariant_of-result c = grind (arith, common_steps, nat_tests, row_of-id, facts)
