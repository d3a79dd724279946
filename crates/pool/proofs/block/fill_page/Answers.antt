use Rattle.pool.proofs.Names.{nat_tests, common_steps, sym, arith, refl}
use Rattle.pool.proofs.Held.{length-zeros, zeros-none, zeros-next, zeros-beside}
use Rattle.pool.proofs.block.fill_page.Goals as goal

pub loop-index-init : goal.loop-index-init
loop-index-init c = record { place = refl; slots = sym (zeros-none c.args.cells.now.slots c.args.page) }

pub write-requires : goal.write-requires
write-requires c = grind (arith, common_steps, nat_tests, length-zeros, zeros-beside)

pub loop-index-preserved : goal.loop-index-preserved
loop-index-preserved c = grind (arith, common_steps, nat_tests, zeros-next)
