use Rattle.pool.proofs.Names.{nat_tests, common_steps, arith}
use Rattle.pool.proofs.Replaced.{replaces-fresh}
use Rattle.pool.proofs.Turned.{turns-empty}
use Rattle.pool.proofs.Wrote.{wrote-as}
use Rattle.pool.proofs.replace.replace_all.Goals as goal

pub returns-then-with-gt0-clause-wrote : goal.returns-then-with-gt0-clause-wrote
returns-then-with-gt0-clause-wrote g c = grind (arith, common_steps, nat_tests, wrote-as, replaces-fresh)

pub turn_all-requires-clause-turned : goal.turn_all-requires-clause-turned
turn_all-requires-clause-turned g c = grind (arith, common_steps, nat_tests, turns-empty)
