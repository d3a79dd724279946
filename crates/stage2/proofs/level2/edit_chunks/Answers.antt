use Rattle.stage2.proofs.Editing.UpToChunk.{alone-can, alone-all}
use Rattle.stage2.proofs.level2.edit_chunks.Goals as goal

pub edit_chunk-requires : goal.edit_chunk-requires
edit_chunk-requires g c = let so = c.in-Some.ensures.some in alone-can c.requires c.in-Some.here so.0 so.4 so.1 so.2 so.3 so.5

pub returns-in-Some : goal.returns-in-Some
returns-in-Some g c = let so = c.in-Some.ensures.some in alone-all c.requires c.in-Some.here so.0 so.4 so.1 so.2 so.3 so.5 c.edit_chunk.ensures
