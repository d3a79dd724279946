-- The chunks of a gigabyte before one are edited, and these runs are left for the others: one piece after another.
use Rattle.std.proofs.Common.{◌≡◌, ◌≢◌, ℕ, ◌+◌, ◌-◌, ◌*◌, ◌/◌, ◌%◌, ◌<◌, ◌≤◌, eqb, true, false, cond, None, List, sym, ap, subst, ◌∙◌, arith}
use Rattle.stage2.proofs.Names.{View, page_count, row_of, PageRun, covers, Pool, IsWhole, pages_of, words_of, taken_of, after_replaces, edited, touches_chunk, AreFree, StaysInStep, chunk_runs, sum_below, table_operations, chunk_operations, Layout, slot, walked, next_page, Piece, ChunkEdit, RowEdit, Site, block_step, answers_in, covers_chunk, IsAt, GrowsChunk, HasFree, CanEditChunks, AreChunksEdited, operations_in_table, IsUnderway, IsNextPiece, IsSeated, disturbed_below, nat_tests, common_steps, part_count, eqb-true}
use Rattle.stage2.specs.inner.Clauses.{CanEditChunk, IsChunkEdited, ReplacesBlocks, linked_view}
use Rattle.stage2.proofs.Counting.Needs.{filled-touches}
use Rattle.stage2.proofs.Counting.Operations.{chunk-same}
use Rattle.stage2.proofs.Editing.ChunkByChunk.{underway-edit, still-answers, has-free, sum_below-more, sum_below-up, site}
use Rattle.stage2.proofs.Editing.FilledChunks.{edited-many, stays-many}
use Rattle.stage2.proofs.Editing.Gigabyte.{touched-below}
use Rattle.stage2.proofs.Editing.FourChunkEdits.{second-inside, second-taken}
use Rattle.stage2.proofs.Editing.MadeEdit.{touches-made, site-made, grows-made, room-made, edits-made, step-made}
use Rattle.stage2.proofs.Runs.Between.{AreLeft, left-all, left-later, left-past}
use Rattle.stage2.proofs.Runs.Left.{left-touches}
use Rattle.stage2.proofs.Runs.OwnRuns.{AreOwn, own-chunk, chunk-growing, chunk-redoes, chunk-free, chunk-stays}
use Rattle.stage2.proofs.Runs.Spans.{climbed, underway-gap, stays-gap}
use Rattle.stage2.proofs.Walkers.ChunkSteps.{march-edit, march-seated, march-free}
use Rattle.stage2.proofs.Walkers.ZeroedTables.{stays-none}

-- the answers after the edit
abbrev pub after : RowEdit → ℕ → ℕ → List PageRun → Pool → ℕ → View
after e j g runs first = edited runs e.access (linked_view e g j first)

-- the operations of a chunk at most
abbrev pub cost : RowEdit → ℕ → ℕ → List PageRun → Pool → ℕ → ℕ
cost e j g runs first x = chunk_operations runs e.access (linked_view e g j first) (512 * g + x)

-- the chunks before the i-th are edited, with so much room left of that at first
pub record IsUpTo (e : RowEdit) (j g : ℕ) (runs : List PageRun) (first : Pool) (room_first i : ℕ) (rest : List PageRun) (now : Pool) (room_now : ℕ) : Type 0 where
  pub underway : IsUnderway e.layout.now e.row g j i (after e j g runs first) (pages_of first.memory) (pages_of now.memory)
  pub in_step : IsSeated e.layout.now e.row g j (pages_of first.memory) → AreFree (λ n. eqb (n / 512 / 512) g) runs e.access (linked_view e g j first)
      → StaysInStep e.layout.now e.row (disturbed_below g i runs (linked_view e g j first) (after e j g runs first)) (λ n. walked n (after e j g runs first n)) first now
  pub left : AreLeft (512 * g + i) rest runs
  pub last : i ≤ 512
  pub room : room_first ≤ room_now + sum_below (cost e j g runs first) i

module _ {e : RowEdit} {j g : ℕ} {runs : List PageRun} {first : Pool} {r0 : ℕ} (can : CanEditChunks e g j runs first r0) (below : g < 512) where
  -- where the words of its chunks stand
  abbrev pub seat : Site
  seat = record { p = e.p; row = e.row; second = j }

  pub at-start : IsUpTo e j g runs first r0 0 runs first r0
  at-start = grind (arith, common_steps, nat_tests, below, stays-none, left-all)

  module _ {i : ℕ} {rest : List PageRun} {now : Pool} {r : ℕ} (so : IsUpTo e j g runs first r0 i rest now r) where
    -- a chunk that these runs leave alone all leave alone
    alone : (x : ℕ) → i ≤ x → touches_chunk (512 * g + x) rest ≡ false → touches_chunk (512 * g + x) runs ≡ false
    alone x from none = sym (left-touches (512 * g + x) rest runs (left-later (512 * g + i) (512 * g + x) rest runs (omega (arith, from)) so.left)) ∙ none

    -- chunks are passed over that they leave alone
    gap : (k : ℕ) → i ≤ k → k ≤ 512 → ((x : ℕ) → i ≤ x → x < k → touches_chunk (512 * g + x) rest ≡ false) → (later : List PageRun) → AreLeft (512 * g + k) later runs → IsUpTo e j g runs first r0 k later now r
    gap k from most apart later left =
        let none : (x : ℕ) → i ≤ x → x < k → touches_chunk (512 * g + x) runs ≡ false = λ x low lt. alone x low (apart x low lt) in
        let room = so.room in
        record {
          underway = underway-gap e.layout.now e.row g j runs e.access (pages_of first.memory) (pages_of now.memory) e.inside below i k from most none so.underway;
          in_step = λ seated free. stays-gap e.layout.now e.row g j runs e.access (pages_of first.memory) (pages_of now.memory) e.inside below first now i k from most none so.underway (so.in_step seated free);
          left = left;
          last = most;
          room = omega (arith, sum_below-up (cost e j g runs first) i k from, room);
        }

    pub at-piece : {piece : Piece} → IsNextPiece g i rest piece → IsUpTo e j g runs first r0 piece.first piece.runs now r
    at-piece {piece} next =
        gap piece.first next.from (omega (arith, next.small)) next.apart piece.runs
        (left-past (512 * g + piece.first) (512 * (512 * g + piece.first)) rest piece.runs runs (λ _. 512 * (512 * g + piece.first)) next.past (left-later (512 * g + i) (512 * g + piece.first) rest runs (omega (arith, next.from)) so.left))

    pub at-untouched : i < 512 → touches_chunk (512 * g + i) rest ≡ false → IsUpTo e j g runs first r0 (i + 1) rest now r
    at-untouched lt none =
        gap (i + 1) (omega arith) (omega (arith, lt)) (λ x low high. let same : x ≡ i = omega (arith, low, high) in subst (λ y. touches_chunk (512 * g + y) rest ≡ false) (sym same) none) rest
        (left-later (512 * g + i) (512 * g + (i + 1)) rest runs (omega arith) so.left)

    -- no chunk is left
    module _ (none : (x : ℕ) → i ≤ x → x < 512 → touches_chunk (512 * g + x) rest ≡ false) where
      all : IsUpTo e j g runs first r0 512 rest now r
      all = gap 512 so.last (omega arith) none rest (left-later (512 * g + i) (512 * g + 512) rest runs (omega (arith, so.last)) so.left)

      pub at-end : AreChunksEdited e g j runs first r0 now r
      at-end = record { edits = all.underway; in_step = all.in_step; room = all.room }

    -- a chunk's own runs among those that are left
    pub own-here : {part : List PageRun} → part ≡ chunk_runs (512 * g + i) rest → AreOwn (512 * g + i) part runs
    own-here {part} own = own-chunk (512 * g + i) runs part (own ∙ so.left.parts (512 * g + i) (omega arith))

    -- the next chunk
    module _ (lt : i < 512) (h : ChunkEdit) (layout : h.layout.now ≡ e.layout.now) (at : h.chunk ≡ 512 * g + i) (own : AreOwn (512 * g + i) h.runs runs) (access : h.access ≡ e.access) (turns : h.turns ≡ e.turns) where
      abbrev v : ℕ → View
      v = answers_in e.layout.now e.row (512 * g + i) j (pages_of now.memory)

      here-site : IsAt seat h now
      here-site = site-made seat h e.layout.now (512 * g + i) e.access layout at access now now (site e.layout.now e.row g j runs e.access (pages_of first.memory) e.inside below i lt (pages_of now.memory) so.underway)

      here-free : GrowsChunk seat h now → HasFree e.row now
      here-free grows =
          has-free e.layout.now e.row g j runs e.access (pages_of first.memory) e.inside below i lt (pages_of now.memory) so.underway can.fits.fits
          (chunk-growing (512 * g + i) runs h.runs e.access own.covered v (grows-made seat h e.layout.now (512 * g + i) e.access layout at access now now grows))

      touched : touches_chunk (512 * g + i) h.runs ≡ true
      touched = subst (λ x. touches_chunk x h.runs ≡ true) at (touches-made h)

      here-cost : cost e j g runs first i ≡ 3 + operations_in_table seat h now
      here-cost =
          let same = chunk-same runs h.runs e.access (linked_view e g j first) v (512 * g + i) own.covered own.count
          (λ x small. still-answers e.layout.now e.row g j runs e.access (pages_of first.memory) e.inside below i lt (pages_of now.memory) so.underway (512 * (512 * g + i) + x) (omega (arith, small, lt, below)) (omega (arith, small))) own.touches in
          sym (ap (λ t. cond t (3 + table_operations h.runs e.access v (512 * g + i)) 0) (sym touched) ∙ same)
          ∙ ap (λ n. 3 + n) (sym (room-made seat h e.layout.now (512 * g + i) e.access layout at access now now))

      here-room : 3 + operations_in_table seat h now ≤ r
      here-room =
          omega (arith, sum_below-more (cost e j g runs first) i, sum_below-up (cost e j g runs first) (i + 1) 512 (omega (arith, lt)), so.room, here-cost, can.room)

      pub here-can : CanEditChunk seat h now r
      here-can = record { site = here-site; turned = (grind (arith, common_steps, nat_tests, at, eqb-true, still-answers, below)); row = ap (λ (l : Layout). row_of l.ids e.p) layout ∙ e.own; free = here-free; room = here-room }

      pub here-next : {new : Pool} {r2 : ℕ} → IsChunkEdited seat h now r new r2 → IsUpTo e j g runs first r0 (i + 1) rest new r2
      here-next {new} done =
          let room = so.room in
          record {
            underway = underway-edit e.layout.now e.row g j runs e.access (pages_of first.memory) e.inside below i lt (pages_of now.memory) so.underway (pages_of new.memory)
                (chunk-redoes e.layout.now e.row (512 * g + i) runs h.runs e.access own.covered j v (pages_of now.memory) (pages_of new.memory)
                (edits-made seat h e.layout.now (512 * g + i) e.access layout at access now new done.edits));
            in_step = λ seated free.
                march-edit e.layout.now e.row g j runs e.access (pages_of first.memory) e.inside below i lt (pages_of now.memory) so.underway first now new (sym own.touches ∙ touched) (so.in_step seated free)
                (chunk-stays e.layout.now e.row (512 * g + i) runs h.runs e.access own.covered v now new
                (step-made seat h e.layout.now (512 * g + i) e.access layout at access now new done.in_step
                (march-seated e.layout.now e.row g j runs e.access (pages_of first.memory) e.inside below i lt (pages_of now.memory) so.underway seated)
                (chunk-free (512 * g + i) runs h.runs e.access own.covered v
                (march-free e.layout.now e.row g j runs e.access (pages_of first.memory) e.inside below i lt (pages_of now.memory) so.underway free))));
            left = left-later (512 * g + i) (512 * g + (i + 1)) rest runs (omega arith) so.left;
            last = omega (arith, lt);
            room = omega (arith, sum_below-more (cost e j g runs first) i, room, here-cost, done.room);
          }

    -- its level 2 table
    module _ (lt : i < 512) where
      pub table-inside : j < page_count now.memory.quotas
      table-inside = second-inside (site e.layout.now e.row g j runs e.access (pages_of first.memory) e.inside below i lt (pages_of now.memory) so.underway)

      pub table-taken : taken_of now.memory.taken j ≡ true
      table-taken = second-taken (site e.layout.now e.row g j runs e.access (pages_of first.memory) e.inside below i lt (pages_of now.memory) so.underway)

    -- chunks up to one that a run fills
    module _ {end : ℕ} (ahead : i < end) (most : end ≤ 512) (filled : (x : ℕ) → i ≤ x → x < end → covers_chunk (512 * g + x) rest ≡ true) where
      fills : (x : ℕ) → i ≤ x → x < end → covers_chunk (512 * g + x) runs ≡ true
      fills x from to = sym (so.left.fills (512 * g + x) (omega (arith, from))) ∙ filled x from to

      spent : sum_below (cost e j g runs first) i + 3 * (end - i) ≤ sum_below (cost e j g runs first) end
      spent = climbed (λ n. sum_below (cost e j g runs first) i + 3 * (n - i) ≤ sum_below (cost e j g runs first) n) i end (omega (arith, ahead))
          (λ x from to le. grind (arith, common_steps, nat_tests, sum_below-more (cost e j g runs first) x, filled-touches, fills x from to)) (omega arith)

      pub blocks-room : 3 * end ≤ r + 3 * i
      blocks-room = grind (arith, common_steps, nat_tests, sum_below-up, spent)

      pub blocks-next : IsWhole now.memory → ((x : ℕ) → i ≤ x → x < end → next_page (slot e.layout.now 2 (words_of now.memory.words j x)) ≡ None) → {new : Pool} {r2 : ℕ}
          → ReplacesBlocks e.p j g i end e.access now new → r + 3 * i ≤ r2 + 3 * end → IsUpTo e j g runs first r0 end rest new r2
      blocks-next whole none {new} blocks less =
          let all : i + (end - i) ≡ end = omega (arith, ahead) in
          let room = so.room in
          record {
            underway = subst (λ (t : Pool). IsUnderway e.layout.now e.row g j end (after e j g runs first) (pages_of first.memory) (pages_of t.memory)) (sym blocks.state)
                (subst (λ n. IsUnderway e.layout.now e.row g j n (after e j g runs first) (pages_of first.memory) (pages_of (after_replaces e.p j i (end - i) blocks.word (block_step e.access) (512 * (512 * g + i)) now).memory)) all
                (edited-many e.layout.now e.row g j runs e.access (pages_of first.memory) e.inside below e.p e.own first i blocks.word now whole (table-inside (omega (arith, ahead, most))) blocks.block end most fills none so.underway (end - i) (omega (arith, all))));
            in_step = λ seated free. subst (λ (t : Pool). StaysInStep e.layout.now e.row (disturbed_below g end runs (linked_view e g j first) (after e j g runs first)) (λ n. walked n (after e j g runs first n)) first t) (sym blocks.state)
                (subst (λ n. StaysInStep e.layout.now e.row (disturbed_below g n runs (linked_view e g j first) (after e j g runs first)) (λ n. walked n (after e j g runs first n)) first (after_replaces e.p j i (end - i) blocks.word (block_step e.access) (512 * (512 * g + i)) now)) all
                (stays-many e.layout.now e.row g j runs e.access (pages_of first.memory) e.inside below e.p e.own first i blocks.word now whole (table-inside (omega (arith, ahead, most))) blocks.block end most fills none so.underway (end - i) (omega (arith, all)) seated (so.in_step seated free)));
            left = left-later (512 * g + i) (512 * g + end) rest runs (omega (arith, ahead)) so.left;
            last = most;
            room = omega (arith, room, spent, less, ahead);
          }

-- ---- a chunk that is the only one that runs touch

module _ {e : RowEdit} {j g : ℕ} {runs : List PageRun} {first : Pool} {r0 : ℕ} (can : CanEditChunks e g j runs first r0) where
  below : g < 512
  below = touched-below runs g can.touched

  module _ (h : ChunkEdit) (layout : h.layout.now ≡ e.layout.now) (only : (n : ℕ) → covers runs n ≡ true → n / 512 ≡ h.chunk) (own : h.runs ≡ runs) (access : h.access ≡ e.access) (turns : h.turns ≡ e.turns) (others : (k : ℕ) → k ≢ h.chunk → touches_chunk k runs ≡ false) where
    at : h.chunk ≡ 512 * g + h.chunk % 512
    at = let touched = can.touched in let here = touched.here in let there = only touched.page touched.covered in omega (arith, here, there)

    apart : (x : ℕ) → x ≢ h.chunk % 512 → touches_chunk (512 * g + x) runs ≡ false
    apart x differs = others (512 * g + x) (λ same. differs (omega (arith, same, at)))

    owns : AreOwn (512 * g + h.chunk % 512) h.runs runs
    owns = record { covered = λ n at. ap (λ rs. covers rs n) own; count = ap (part_count (512 * g + h.chunk % 512)) own; touches = ap (touches_chunk (512 * g + h.chunk % 512)) own }

    under : IsUpTo e j g runs first r0 (h.chunk % 512) runs first r0
    under = gap can below (at-start can below) (h.chunk % 512) (omega arith) (omega arith) (λ x from to. apart x (λ same. omega (arith, same, to))) runs (left-all (512 * g + h.chunk % 512) runs)

    pub alone-can : CanEditChunk (record { p = e.p; row = e.row; second = j }) h first r0
    alone-can = here-can can below under (omega arith) h layout at owns access turns

    -- with it all are edited
    pub alone-all : {new : Pool} {r : ℕ} → IsChunkEdited (record { p = e.p; row = e.row; second = j }) h first r0 new r → AreChunksEdited e g j runs first r0 new r
    alone-all done = at-end can below (here-next can below under (omega arith) h layout at owns access turns done) (λ x from small. apart x (λ same. omega (arith, same, from)))
