use Rattle.std.proofs.Common.{◌≡◌, ℕ, ◌+◌, ◌%◌, ◌<◌, true, Some, arith, sym, ap, subst, ◌∙◌}
use Rattle.stage2.proofs.Names.{page_count, table_word_of, Pages, Pool, Words, pages_of, words_of, put, with_put, StaysAtChunk, IsSeatedAt, chunk_after, Next, slot, at_2, next_page, nat_tests, common_steps}
use Rattle.pool.proofs.Shares.{share_inside}
use Rattle.pool.proofs.Words.{mark-same, mark-kept}
use Rattle.stage2.proofs.Editing.FourChunkEdits.{second-inside, second-taken, does-hang}
use Rattle.stage2.proofs.Editing.OneChunk.{in-step-hung, grows, some-hung, hung}
use Rattle.stage2.proofs.Tree.LinkTable.{slot-table}
use Rattle.stage2.proofs.Tree.Rows.{has-row}
use Rattle.stage2.proofs.Tree.TakenPages.{pages_of-take}
use Rattle.stage2.proofs.Tree.WalkFrame.{put-same, IsUnheld}
use Rattle.stage2.proofs.Walkers.SeatedChunks.{hung-seen, hung-outside, unheld-free, unheld-outside, gives-after}
use Rattle.stage2.proofs.Walkers.StepLists.{IsHung, stays-replaced}
use Rattle.stage2.proofs.Walkers.ZeroedTables.{stays-after, stays-taken}
use Rattle.stage2.proofs.level2.hang_table.Goals as goal

pub take_page-third-requires : goal.take_page-third-requires
take_page-third-requires g c = record { free = c.requires.can.free (grows c.args.site.now c.args.edit.now (g.M.TableMem.state c.args.memory.now) c.requires.can.site c.requires.none c.requires.mixed) }

pub fill_table-requires-clause-taken : goal.fill_table-requires-clause-taken
fill_table-requires-clause-taken g c =
    let old = g.M.TableMem.state c.args.memory.now in
    let took = c.take_page-third.ensures in
    grind (arith, common_steps, nat_tests, pages_of-take old (g.M.TableMem.state c.take_page-third.new.memory) c.args.site.now.row c.take_page-third.result (g.met.M.TableMem.whole c.args.memory.now) took.lowest took.state, mark-same (pages_of old.memory).taken c.take_page-third.result true)

pub fill_table-requires-clause-some : goal.fill_table-requires-clause-some
fill_table-requires-clause-some g c = some-hung c.args.site.now c.args.edit.now (g.M.TableMem.state c.args.memory.now) c.requires.can.site c.requires.none c.requires.mixed c.requires.before

pub fill_table-requires-clause-room : goal.fill_table-requires-clause-room
fill_table-requires-clause-room g c = grind (arith, common_steps, nat_tests, hung c.args.site.now c.args.edit.now (g.M.TableMem.state c.args.memory.now) c.requires.can.site c.requires.none c.requires.mixed c.requires.before)

pub replace_entry-requires : goal.replace_entry-requires
replace_entry-requires g c =
    let s = c.args.site.now in
    let e = c.args.edit.now in
    let can = c.requires.can in
    let old = g.M.TableMem.state c.args.memory.now in
    let m = pages_of old.memory in
    let k = c.take_page-third.result in
    let took = c.take_page-third.ensures in
    let filled = c.fill_table.ensures.words in
    let marked = pages_of-take old (g.M.TableMem.state c.take_page-third.new.memory) s.row k (g.met.M.TableMem.whole c.args.memory.now) took.lowest took.state in
    let quotas = filled.quotas ∙ ap (λ (x : Pages). x.quotas) marked in
    let room = can.room in
    record {
      page_in = subst (λ x. s.second < page_count x) (sym quotas) (second-inside can.site);
      taken = ap (λ f. f s.second) filled.taken ∙ ap (λ (x : Pages). x.taken s.second) marked ∙ mark-kept m.taken k s.second (second-taken can.site);
      partition = has-row e.layout.now (g.M.TableMem.state c.fill_table.new.memory).memory s.p s.row (can.site.orderly.ids ∙ sym (filled.ids ∙ ap (λ (x : Pages). x.ids) marked)) can.row can.site.partition;
      room = omega (arith, hung s e old can.site c.requires.none c.requires.mixed c.requires.before, room, took.room, c.fill_table.ensures.room);
    }

-- a word points at one page
same-page : (k q : ℕ) → Some k ≡ Some q → k ≡ q
same-page k q same = cc

pub returns : goal.returns
returns g c =
    let s = c.args.site.now in
    let e = c.args.edit.now in
    let layout = e.layout.now in
    let chunk = e.chunk in
    let j = s.second in
    let site = c.requires.can.site in
    let x = g.M.TableMem.state c.args.memory.now in
    let y = g.M.TableMem.state c.take_page-third.new.memory in
    let z = g.M.TableMem.state c.fill_table.new.memory in
    let end = g.M.TableMem.state c.replace_entry.new.memory in
    let k = c.take_page-third.result in
    let word = c.table_word.result in
    let took = c.take_page-third.ensures in
    let filled = c.fill_table.ensures in
    let put_there = c.replace_entry.ensures.pages in
    let marked = pages_of-take x y s.row k (g.met.M.TableMem.whole c.args.memory.now) took.lowest took.state in
    let is_word : word ≡ table_word_of (layout.base + k) = c.table_word.ensures.value ∙ ap table_word_of c.address.ensures in
    let edits = does-hang site e.runs e.access c.args.before.now k (pages_of y.memory) (pages_of z.memory) (pages_of end.memory) c.requires.none took.lowest c.requires.before marked filled.words
    (subst (λ x. pages_of end.memory ≡ with_put j (chunk % 512) x (pages_of z.memory)) is_word put_there) c.requires.mixed in
    let stays : IsSeatedAt s e x → StaysAtChunk layout s.row chunk (chunk_after s e x) x end = λ seated.
    let same : words_of y.memory.words ≡ words_of x.memory.words = ap (λ (s : Pool). words_of s.memory.words) took.state in
    let loose : IsUnheld layout (words_of y.memory.words) k = subst (λ (w : Words). IsUnheld layout w k) (sym same) (unheld-free site seated k took.lowest.free) in
    let hung_y : IsHung layout (words_of y.memory.words) s.row chunk j = subst (λ (w : Words). IsHung layout w s.row chunk j) (sym same) (hung-seen site seated) in
    let is_slot : slot layout 2 word ≡ Next k = ap (slot layout 2) is_word ∙ slot-table layout 2 k (omega arith) (rw site.orderly.pages (share_inside (pages_of x.memory).quotas s.row k took.lowest.inside)) site.orderly.fits in
    stays-after {b = z}
    (stays-after {b = y} (stays-taken same (ap (λ (s : Pool). s.operations) took.state) (ap (λ (s : Pool). s.made) took.state)) (filled.unseen layout s.row _ _ loose))
    (stays-replaced s.p word site.partition site.chunk (hung-outside layout site.partition site.chunk loose filled.words.others hung_y) c.requires.can.row
    (λ q next. subst (λ t. IsUnheld layout (words_of z.memory.words) t) (same-page k q (sym (ap next_page is_slot) ∙ next)) (unheld-outside layout loose filled.words.others))
    (λ n small at.
    let wrote : words_of end.memory.words ≡ put j (chunk % 512) word (words_of z.memory.words) = ap (λ (s : Pages). s.words) put_there in
    let read : words_of end.memory.words j (chunk % 512) ≡ word = ap (λ (w : Words). w j (chunk % 512)) wrote ∙ put-same (words_of z.memory.words) j (chunk % 512) word in
    ap (λ (w : Words). at_2 layout w n (slot layout 2 word)) (sym wrote) ∙ ap (λ w. at_2 layout (words_of end.memory.words) n (slot layout 2 w)) (sym read) ∙ gives-after site edits n small at)
    c.replace_entry.ensures.history) in
    record {
      edits = edits;
      in_step = in-step-hung s e x site c.requires.none c.requires.mixed stays;
      room = omega (arith, hung s e x site c.requires.none c.requires.mixed c.requires.before, took.room, filled.room, c.replace_entry.ensures.room);
    }
