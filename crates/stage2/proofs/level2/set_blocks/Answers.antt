use Rattle.stage2.proofs.Editing.FilledChunks.{blocks-small}
use Rattle.stage2.proofs.level2.set_blocks.Goals as goal
use Rattle.stage2.proofs.Names.{nat_tests, common_steps, arith}

pub replace_words-requires-clause-in_range : goal.replace_words-requires-clause-in_range
replace_words-requires-clause-in_range g c = grind (arith, common_steps, nat_tests, blocks-small)
