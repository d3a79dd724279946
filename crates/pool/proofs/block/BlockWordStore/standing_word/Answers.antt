use Rattle.pool.proofs.Names.{nat_tests, common_steps, arith}
use Rattle.pool.proofs.Held.{filled-at}
use Rattle.pool.proofs.block.BlockWordStore.standing_word.Goals as goal

pub get-requires : goal.get-requires
get-requires c = grind (arith, common_steps, nat_tests, filled-at)
