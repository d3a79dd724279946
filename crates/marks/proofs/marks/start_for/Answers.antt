use Rattle.std.proofs.Common.{arith}
use Rattle.marks.specs.Tree.{level_start}
use Rattle.marks.proofs.marks.start_for.Goals as goal

pub returns-in-4097-to-262144-clause-level : goal.returns-in-4097-to-262144-clause-level
unfolding level_start
returns-in-4097-to-262144-clause-level c = record { level = 2; begins = omega arith; fits = omega (arith, c.in-4097-to-262144) }

pub returns-in-262145-to-16777216-clause-level : goal.returns-in-262145-to-16777216-clause-level
unfolding level_start
returns-in-262145-to-16777216-clause-level c = record { level = 3; begins = omega arith; fits = omega (arith, c.in-262145-to-16777216) }

pub returns-in_default-clause-level : goal.returns-in_default-clause-level
unfolding level_start
returns-in_default-clause-level c = record { level = 4; begins = omega arith; fits = omega (arith, c.requires) }
