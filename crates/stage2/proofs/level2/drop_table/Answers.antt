use Rattle.stage2.proofs.Names.{page_count, Pages, Pool, Words, pages_of, words_of, put, StaysAtChunk, IsSeatedAt, chunk_after, pages_in, nat_tests, common_steps, ℕ, ◌%◌, ◌<◌, cond, is_some, arith, sym, ap, subst, ◌∙◌}
use Rattle.stage2.proofs.Tree.WalkFrame.{IsUnheld}
use Rattle.stage2.proofs.Walkers.ZeroedTables.{stays-after, stays-taken}
use Rattle.stage2.proofs.Walkers.StepLists.{stays-replaced, stays-filled, unheld-word}
use Rattle.stage2.proofs.Walkers.SeatedChunks.{hung-seen, gives-block, block-no-table, third-alone, third-loose}
use Rattle.stage2.proofs.Editing.FourChunkEdits.{second-inside, second-taken, third-inside, third-taken, third-share, left-kept, left-words, drop-zero, does-drop}
use Rattle.stage2.proofs.Editing.OneChunk.{in-step-alike, others, dropped}
use Rattle.stage2.proofs.Tree.TakenPages.{pages_of-give}
use Rattle.stage2.proofs.Tree.Rows.{has-row}
use Rattle.stage2.proofs.level2.drop_table.Goals as goal

pub replace_entry-requires : goal.replace_entry-requires
replace_entry-requires g c = grind (arith, common_steps, nat_tests, second-inside c.requires.can.site, second-taken c.requires.can.site, has-row)

pub empty_table-requires : goal.empty_table-requires
empty_table-requires g c =
    let s = c.args.site.now in
    let e = c.args.edit.now in
    let k = c.args.third in
    let old = g.M.TableMem.state c.args.memory.now in
    let m1 = pages_of (g.M.TableMem.state c.replace_entry.new.memory).memory in
    let can = c.requires.can in
    let put = c.replace_entry.ensures.pages in
    let same = ap (λ n. cond (is_some e.access) n (pages_in e.runs e.chunk)) (left-words can.site k c.block_word.result m1 c.requires.table put) in
    let room = can.room in
    let left = c.replace_entry.ensures.room in
    record {
      page_in = subst (λ (x : Pages). k < page_count x.quotas) (sym put) (third-inside can.site k c.requires.table);
      taken = ap (λ (x : Pages). x.taken k) put ∙ third-taken can.site k c.requires.table;
      left = λ i small out. grind (arith, common_steps, nat_tests, left-kept can.site k c.block_word.result m1 c.requires.table put i, others s e old can.site c.requires.table c.requires.alike i small out);
      room = omega (arith, same, dropped s e old can.site c.requires.table c.requires.alike, room, left);
    }

pub give_page-requires : goal.give_page-requires
give_page-requires g c =
    let k = c.args.third in
    let m1 = pages_of (g.M.TableMem.state c.replace_entry.new.memory).memory in
    let m2 = pages_of (g.M.TableMem.state c.empty_table.new.memory).memory in
    let site = c.requires.can.site in
    let emptied = c.empty_table.ensures.writes.words in
    grind (arith, common_steps, nat_tests, third-share site k c.requires.table, third-taken site k c.requires.table, drop-zero site k m1 m2 emptied)

pub returns : goal.returns
returns g c =
    let s = c.args.site.now in
    let e = c.args.edit.now in
    let layout = e.layout.now in
    let chunk = e.chunk in
    let j = s.second in
    let k = c.args.third in
    let word = c.block_word.result in
    let site = c.requires.can.site in
    let alike = c.requires.alike in
    let table = c.requires.table in
    let x = g.M.TableMem.state c.args.memory.now in
    let y = g.M.TableMem.state c.replace_entry.new.memory in
    let z = g.M.TableMem.state c.empty_table.new.memory in
    let end = g.M.TableMem.state c.give_page.new.memory in
    let view : ℕ → _ = chunk_after s e x in
    let put_there = c.replace_entry.ensures.pages in
    let emptied = c.empty_table.ensures.writes in
    let given = c.give_page.ensures.state in
    let stays : IsSeatedAt s e x → StaysAtChunk layout s.row chunk view x end = λ seated.
    let hung = hung-seen site seated in
    let loose : IsUnheld layout (put j (chunk % 512) word (words_of x.memory.words)) k =
    unheld-word layout (words_of x.memory.words) s.row chunk j word k site.partition site.chunk hung (block-no-table layout chunk word e.access c.block_word.ensures) (third-alone site seated k table) (third-loose site seated k table) in
    stays-after {b = z}
    (stays-after {b = y}
    (stays-replaced s.p word site.partition site.chunk hung c.requires.can.row
    (λ q next. let none = block-no-table layout chunk word e.access c.block_word.ensures in absurd (cc))
    (λ n small at. gives-block layout (put j (chunk % 512) word (words_of x.memory.words)) chunk word view e.access c.block_word.ensures alike n at)
    c.replace_entry.ensures.history)
    (stays-filled emptied.made (subst (λ (w : Words). IsUnheld layout w k) (sym (ap (λ (s : Pages). s.words) put_there)) loose)))
    (stays-taken (ap (λ (s : Pool). words_of s.memory.words) given) (ap (λ (s : Pool). s.operations) given) (ap (λ (s : Pool). s.made) given)) in
    let quotas = emptied.words.quotas ∙ ap (λ (x : Pages). x.quotas) put_there in
    let same = ap (λ n. cond (is_some e.access) n (pages_in e.runs chunk)) (left-words site k word (pages_of y.memory) table put_there) in
    record {
      edits = does-drop site view e.access word k (pages_of y.memory) (pages_of z.memory) (pages_of end.memory) table c.block_word.ensures put_there emptied.words
          (pages_of-give z end k (g.met.M.TableMem.whole c.empty_table.new.memory) (subst (λ x. k < page_count x) (sym quotas) (third-inside site k table)) given) alike;
      in_step = in-step-alike s e x site alike stays;
      room = omega (arith, same, dropped s e x site table alike, c.replace_entry.ensures.room, c.empty_table.ensures.room, c.give_page.ensures.room);
    }
