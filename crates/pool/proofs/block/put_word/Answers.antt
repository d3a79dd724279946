use Rattle.pool.proofs.Names.{nat_tests, common_steps, arith}
use Rattle.pool.proofs.Held.{filled-at}
use Rattle.pool.proofs.block.put_word.Goals as goal
use Rattle.std.proofs.lemmas.List.{set-set, map-set}

pub read-old-requires : goal.read-old-requires
read-old-requires c = (c.requires.place, filled-at c.args.cells.now.slots c.args.page c.args.index c.requires.filled c.requires.index_in)

pub returns-clause-words : goal.returns-clause-words
returns-clause-words c = grind (arith, common_steps, nat_tests, set-set, map-set)
