use Rattle.pool.proofs.Names.{nat_tests, common_steps, arith, get_or_read}
use Rattle.pool.proofs.Held.{length-held, filled-at, held-none}
use Rattle.pool.proofs.block.BlockWordStore.word.Goals as goal

pub get-requires : goal.get-requires
get-requires c = grind (arith, common_steps, nat_tests, length-held, get_or_read, filled-at)

pub returns-else-index : goal.returns-else-index
returns-else-index c = grind (arith, common_steps, nat_tests, length-held, get_or_read, held-none)
