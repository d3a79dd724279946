-- The edit of a gigabyte that has its level 2 table, from that of its chunks.
use Rattle.std.proofs.Common.{◌≡◌, ℕ, ◌+◌, ◌<◌, ◌≤◌, Some, List, sym, ap, subst, ◌∙◌, arith}
use Rattle.stage2.proofs.Names.{row_of, page_count, PageRun, Pages, Pool, pages_of, edited, answers, linked, Gigabyte, RowEdit, second_at, row_view, row_after, CanEditChunks, AreChunksEdited, CanEditGigabyte, IsGigabyteEdited, GigabyteInStep, operations_in_chunks, operations_in_gigabyte, IsUnderway, nat_tests, common_steps}
use Rattle.pool.proofs.Shares.{share_inside}
use Rattle.stage2.specs.inner.Clauses.{IsEmpty, HasWord, CanUnlink, Unlinks, UnlinksInStep}
use Rattle.stage2.proofs.Editing.Gigabyte.{touched-below, linked-same, tabled-chunks, finish-kept, finish-zero}
use Rattle.stage2.proofs.Runs.ChunkCounts.{touched-operations}
use Rattle.stage2.proofs.Walkers.RootWrites.{stays-tabled, zero-unmapped, seated-linked}
use Rattle.stage2.proofs.Walkers.ZeroedTables.{stays-after}

module _ {e : RowEdit} {j g : ℕ} {runs : List PageRun} {first : Pool} {r0 : ℕ} (can : CanEditGigabyte e g runs first r0) (table : second_at e.layout.now e.row g first ≡ Some j) where
  below : g < 512
  below = touched-below runs g can.touched

  same : linked e.layout.now e.row g j (pages_of first.memory) ≡ pages_of first.memory
  same = linked-same e.layout.now e.row g j (pages_of first.memory) can.canonical e.inside below table

  -- two operations are for its link
  costs : operations_in_gigabyte e g runs first ≡ operations_in_chunks e g j runs first + 2
  costs = grind (arith, common_steps, nat_tests, touched-operations runs e.access (row_view e.layout.now e.row first) g can.touched, tabled-chunks e.layout.now e.row g j (pages_of first.memory) can.canonical e.inside below table runs e.access)

  pub tabled-can : CanEditChunks e g j runs first r0
  tabled-can = grind (arith, common_steps, nat_tests, same, linked-same, below, costs)

  module _ {mid : Pool} {r1 : ℕ} (chunks : AreChunksEdited e g j runs first r0 mid r1) where
    under : IsUnderway e.layout.now e.row g j 512 (row_after e runs first) (pages_of first.memory) (pages_of mid.memory)
    under = subst (λ (x : Pages). IsUnderway e.layout.now e.row g j 512 (edited runs e.access (answers e.layout.now x.words e.row)) (pages_of first.memory) (pages_of mid.memory)) same chunks.edits

    pub tabled-page : j < page_count mid.memory.quotas
    tabled-page = grind (arith, common_steps, nat_tests, share_inside first.memory.quotas e.row j (can.canonical.orderly.owned (Gigabyte e.row g) j (e.inside, below) table), can.canonical.orderly.owned (Gigabyte e.row g) j (e.inside, below) table, e.inside)

    pub tabled-left : 2 ≤ r1
    tabled-left = let all = costs in let room = can.room in let left = chunks.room in omega (arith, all, room, left)

    pub can-unlink : IsEmpty j mid → CanUnlink e.p e.row j mid
    can-unlink empty = record {
      root = let rows = chunks.edits.orderly.rows in let inside = e.inside in omega (arith, rows, inside);
      own = ap (λ x. row_of x e.p) (chunks.edits.ids ∙ sym can.canonical.orderly.ids) ∙ e.own;
      inside = chunks.edits.orderly.owned (Gigabyte e.row g) j (e.inside, below) chunks.edits.second;
      taken = chunks.edits.orderly.taken (Gigabyte e.row g) j (e.inside, below) chunks.edits.second;
      empty = empty;
    }

    steps : GigabyteInStep e g runs first mid
    steps free = stays-tabled e.layout.now e.row g j runs e.access (pages_of first.memory) first mid same chunks.in_step free

    pub kept : HasWord j mid → IsGigabyteEdited e g runs first r0 mid r1
    kept word = record {
      edits = finish-kept e.layout.now e.row g j (pages_of first.memory) can.canonical e.inside below table (row_after e runs first) (pages_of mid.memory) under word.0 word.1 word.2;
      in_step = steps;
      room = let all = costs in let left = chunks.room in omega (arith, all, left);
    }

    -- it became empty, and its link is taken away
    pub emptied : {new : Pool} {r2 : ℕ} → IsEmpty j mid → Unlinks e.row g j mid new → UnlinksInStep e.p e.row g mid new → r1 ≤ r2 + 2 → IsGigabyteEdited e g runs first r0 new r2
    emptied {new} empty gone quietly less = record {
      edits = finish-zero e.layout.now e.row g j (pages_of first.memory) can.canonical e.inside below table (row_after e runs first) (pages_of mid.memory) (pages_of new.memory) under empty gone;
      in_step = λ free.
          let none = zero-unmapped e.layout.now e.row g j (edited runs e.access (answers e.layout.now (linked e.layout.now e.row g j (pages_of first.memory)).words e.row)) (pages_of first.memory) (pages_of mid.memory) e.inside below
          (seated-linked e.layout.now e.row g j (pages_of first.memory) same) chunks.edits empty in
          stays-after (steps free) (quietly e.layout.now _ _ none.0 e.inside e.own none.1);
      room = let all = costs in let left = chunks.room in omega (arith, all, left, less);
    }
