use Rattle.pool.proofs.Names.{nat_tests, common_steps, refl, arith, true}
use Rattle.std.proofs.lemmas.List.{get_or_read, length-set}
use Rattle.pool.proofs.Held.{length-zeros, held-zeros, marked-fill}
use Rattle.pool.proofs.block.Block.hold.Goals as goal

pub invariant_of-self-clause-marked : goal.invariant_of-self-clause-marked
invariant_of-self-clause-marked c =
    let block = c.args.self.now in
    rw c.fill_page.ensures.slots (marked-fill block.marks.items block.cells.slots c.args.page 512 refl (omega (arith, block.sized, c.requires)) (omega (arith, block.counted, c.requires)) block.marked)

pub invariant_of-self-clause-counted : goal.invariant_of-self-clause-counted
invariant_of-self-clause-counted c = grind (arith, common_steps, nat_tests, length-zeros)

pub invariant_of-self-clause-sized : goal.invariant_of-self-clause-sized
invariant_of-self-clause-sized c = omega (arith, length-set c.args.self.now.marks.items c.args.page true, c.args.self.now.sized)

pub returns-then-not-index-clause-words : goal.returns-then-not-index-clause-words
returns-then-not-index-clause-words c = grind (arith, common_steps, nat_tests, get_or_read, held-zeros)
