use Rattle.pool.proofs.Names.{nat_tests, common_steps, arith}
use Rattle.pool.proofs.Held.{filled-place, empty-place, held-none}
use Rattle.pool.proofs.block.Block.word_at.Goals as goal

pub get-requires : goal.get-requires
get-requires c = grind (arith, common_steps, nat_tests, filled-place)

pub returns-else-is_marked : goal.returns-else-is_marked
returns-else-is_marked c = grind (arith, common_steps, nat_tests, held-none, empty-place)
