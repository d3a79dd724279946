use Rattle.stage2.proofs.Editing.WholeTables.{turned-same}
use Rattle.stage2.proofs.tables.Tables.map_pending.Goals as goal
use Rattle.stage2.proofs.Names.{nat_tests, common_steps, arith}

pub new-requires : goal.new-requires
new-requires g c = let can = c.requires.fits c.in-Some.access c.in-Some.is in let a = can.some in let b = can.inside in omega (arith, a, b)

pub overflow_sub-end : goal.overflow_sub-end
overflow_sub-end g c = let can = c.requires.fits c.in-Some.access c.in-Some.is in let a = can.some in omega (arith, a)

pub new-requires-in-Some-clause-some : goal.new-requires-in-Some-clause-some
new-requires-in-Some-clause-some g c = let can = c.requires.fits c.in-Some.access c.in-Some.is in let a = can.some in omega (arith, a)

pub new-requires-in-Some-clause-in_range : goal.new-requires-in-Some-clause-in_range
new-requires-in-Some-clause-in_range g c = let can = c.requires.fits c.in-Some.access c.in-Some.is in let a = can.some in let b = can.inside in let d = c.new.ensures in omega (arith, a, b, d)

pub ready_to_turn-requires-clause-turned : goal.ready_to_turn-requires-clause-turned
ready_to_turn-requires-clause-turned g c = grind (arith, common_steps, nat_tests, c.requires.fits c.in-Some.access c.in-Some.is)

-- the pages that are turned, and the edit that fits, where the list is made ready
pub turn-requires : goal.turn-requires
turn-requires g c = grind (arith, common_steps, nat_tests, c.requires.fits c.in-Some.access c.in-Some.is, turned-same)
