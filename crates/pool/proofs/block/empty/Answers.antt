use Rattle.pool.proofs.Names.{nat_tests, common_steps, arith}
use Rattle.pool.proofs.Contents.{swept-here, swept-next}
use Rattle.pool.proofs.Held.{filled-place, empty-place, swept-empty}
use Rattle.pool.proofs.block.empty.Goals.{then-is_marked, else-is_marked}
use Rattle.pool.proofs.block.empty.Goals as goal

pub read-word-requires : goal.read-word-requires
read-word-requires c = grind (arith, common_steps, nat_tests, filled-place, swept-here)

pub loop-place-preserved : goal.loop-place-preserved
loop-place-preserved c = grind (arith, common_steps, nat_tests, swept-next, swept-empty, empty-place)
