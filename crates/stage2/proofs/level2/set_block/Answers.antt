use Rattle.stage2.proofs.Names.{nat_tests, common_steps, pages_of, words_of, put, chunk_after, ◌%◌, arith}
use Rattle.stage2.proofs.Editing.OneChunk.{in-step-alike}
use Rattle.stage2.proofs.Walkers.StepLists.{stays-replaced}
use Rattle.stage2.proofs.Walkers.SeatedChunks.{hung-seen, gives-block, block-no-table}
use Rattle.stage2.proofs.Editing.FourChunkEdits.{second-inside, second-taken, does-set}
use Rattle.stage2.proofs.Tree.Rows.{has-row}
use Rattle.stage2.proofs.level2.set_block.Goals as goal

pub replace_entry-requires : goal.replace_entry-requires
replace_entry-requires g c = grind (arith, common_steps, nat_tests, second-inside c.requires.can.site, second-taken c.requires.can.site, has-row)

pub returns : goal.returns
returns g c =
    let s = c.args.site.now in
    let e = c.args.edit.now in
    let layout = e.layout.now in
    let old = g.M.TableMem.state c.args.memory.now in
    let new = g.M.TableMem.state c.replace_entry.new.memory in
    let can = c.requires.can in
    let alike = c.requires.alike in
    let word = c.block_word.result in
    let view = chunk_after s e old in
    let none = block-no-table layout e.chunk word e.access c.block_word.ensures in
    record {
      edits = does-set can.site view e.access word (pages_of new.memory) c.requires.none c.block_word.ensures c.replace_entry.ensures.pages alike;
      in_step = in-step-alike s e old can.site alike (λ seated.
          stays-replaced s.p word can.site.partition can.site.chunk (hung-seen can.site seated) can.row
          (λ k next. absurd (cc))
          (λ n small at. gives-block layout (put s.second (e.chunk % 512) word (words_of old.memory.words)) e.chunk word view e.access c.block_word.ensures alike n at)
          c.replace_entry.ensures.history);
      room = let room = c.replace_entry.ensures.room in omega (arith, room);
    }
