use Rattle.stage2.proofs.Names.{nat_tests, arith}
use Rattle.stage2.proofs.Editing.FilledChunks.{plain-slot}
use Rattle.stage2.proofs.level2.points_at_table.Goals as goal

pub returns-clause-no : goal.returns-clause-no
returns-clause-no c = λ isnt layout. plain-slot layout c.args.word (grind (arith, nat_tests, isnt))
