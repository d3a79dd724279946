use Rattle.pool.proofs.Names.{nat_tests, common_steps, arith}
use Rattle.pool.proofs.Replaced.{replaces-one}
use Rattle.pool.proofs.Wrote.{wrote-then, wrote-as}
use Rattle.pool.proofs.replace.replace_one.Goals as goal

pub returns-clause-wrote : goal.returns-clause-wrote
returns-clause-wrote g c = grind (arith, common_steps, nat_tests, wrote-as, wrote-then, replaces-one)
