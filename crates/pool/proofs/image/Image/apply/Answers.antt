use Rattle.std.proofs.Common.{arith}
use Rattle.pool.proofs.Names.{nat_tests, common_steps}
use Rattle.pool.proofs.Applying.{applied-set}
use Rattle.pool.proofs.image.Image.apply.Goals as goal

pub returns-in-Set-clause-words : goal.returns-in-Set-clause-words
returns-in-Set-clause-words c = grind (arith, common_steps, nat_tests, applied-set)
