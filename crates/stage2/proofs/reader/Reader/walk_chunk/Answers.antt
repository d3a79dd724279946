use Rattle.stage2.proofs.Names.{nat_tests, common_steps, arith}
use Rattle.stage2.proofs.Tree.EntryWords.{block-page}
use Rattle.stage2.proofs.reader.Reader.walk_chunk.Goals as goal

pub block_page-requires : goal.block_page-requires
block_page-requires g c = grind (arith, common_steps, nat_tests, block-page)
