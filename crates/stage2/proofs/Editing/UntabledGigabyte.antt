-- The edit of a gigabyte that gets its level 2 table, from that of its chunks.
use Rattle.std.proofs.Common.{◌≡◌, ℕ, ◌+◌, ◌/◌, ◌%◌, ◌<◌, true, false, ◌&&◌, eqb, cond, is_some, None, Some, List, sym, ap, subst, ◌∙◌, arith}
use Rattle.stage2.proofs.Names.{nat_tests, View, PageRun, Pages, Pool, IsWhole, pages_of, words_of, taken_of, with_mark, after_take, IsLowestFree, Set, table_word_of, AreFree, Turns, edited, StaysInStep, IsLogged, IsOrderly, answers, answer_of, linked, walk, walked, Gigabyte, table_at, RowEdit, second_at, row_view, HasFree, Puts, CanEditChunks, AreChunksEdited, CanEditGigabyte, IsGigabyteEdited, GigabyteInStep, operations_in_chunks, operations_in_gigabyte, IsUnderway, IsSeated, disturbed_below, common_steps, eqb-true}
use Rattle.stage2.specs.inner.Clauses.{EditsInGigabyte}
use Rattle.stage2.specs.inner.Gigabytes.{Fits}
use Rattle.stage2.proofs.Editing.Gigabyte.{touched-below, link-has-free, link-fits, same-answers, link-chunks, finish-link}
use Rattle.stage2.proofs.Editing.RootLinks.{IsLink, untabled, link-table, link-rooted, rooted}
use Rattle.stage2.proofs.Runs.ChunkCounts.{touched-operations}
use Rattle.stage2.proofs.Tree.TakenPages.{pages_of-take}
use Rattle.stage2.proofs.Walkers.RootWrites.{stays-linked, stays-root, root-zero, forest-unlinked, gives-new}
use Rattle.stage2.proofs.Walkers.ZeroedTables.{stays-after, stays-taken}

module _ {e : RowEdit} {g : ℕ} {runs : List PageRun} {first : Pool} {r0 : ℕ} (can : CanEditGigabyte e g runs first r0) (none : second_at e.layout.now e.row g first ≡ None) (maps : is_some e.access ≡ true) where
  below : g < 512
  below = touched-below runs g can.touched

  -- a page is free for it
  pub untabled-free : HasFree e.row first
  untabled-free = link-has-free e.layout.now e.row g runs e.access (pages_of first.memory) can.canonical e.inside below none can.touched maps can.fits.fits

  -- which is taken
  module _ {j : ℕ} {taken : Pool} (whole : IsWhole first.memory) (zeros : (i : ℕ) → taken_of first.memory.taken j ≡ false → words_of first.memory.words j i ≡ 0) (lowest : IsLowestFree (pages_of first.memory) e.row j) (is : taken ≡ after_take j first) where
    link : IsLink e.layout.now e.row g j (pages_of first.memory)
    link = grind (arith, common_steps, nat_tests, below)

    marked : pages_of taken.memory ≡ with_mark j true (pages_of first.memory)
    marked = pages_of-take first taken e.row j whole lowest is

    -- two operations are for its link
    costs : operations_in_gigabyte e g runs first ≡ operations_in_chunks e g j runs taken + 2
    costs = grind (arith, common_steps, nat_tests, touched-operations runs e.access (row_view e.layout.now e.row first) g can.touched, link-chunks e.layout.now e.row g j runs e.access (pages_of first.memory) can.canonical below link can.touched maps (pages_of taken.memory) marked)

    pub untabled-can : {r1 : ℕ} → r1 ≡ r0 → CanEditChunks e g j runs taken r1
    untabled-can kept = record {
      orderly =
          subst (λ (x : Pages). IsOrderly e.layout.now (linked e.layout.now e.row g j x)) (sym marked)
          (rooted e.layout.now e.row g (table_word_of (e.layout.now.base + j)) (pages_of first.memory) (linked e.layout.now e.row g j (with_mark j true (pages_of first.memory))) (link-rooted e.layout.now e.row g j (pages_of first.memory) link));
      second = subst (λ (x : Pages). table_at e.layout.now (linked e.layout.now e.row g j x).words (Gigabyte e.row g) ≡ Some j) (sym marked) (link-table e.layout.now e.row g j (pages_of first.memory) link);
      touched = can.touched;
      turned = λ turns. subst (λ (x : Pages). Turns (λ n. eqb (n / 512 / 512) g) runs e.access (answers e.layout.now (linked e.layout.now e.row g j x).words e.row)) (sym marked)
          (λ n at covered. ap (λ a. is_some a) (same-answers e.layout.now e.row g j runs e.access (pages_of first.memory) can.canonical below link can.touched maps n (let here = eqb-true _ _ at in let small = below in omega (arith, here, small))) ∙ can.turned turns n at covered);
      fits = subst (λ (x : Pages). Fits e.layout.now e.row g j runs e.access x) (sym marked) (record { fits = link-fits e.layout.now e.row g j runs e.access (pages_of first.memory) can.canonical below link can.touched maps can.fits.fits });
      room = let all = costs in let room = can.room in omega (arith, all, room, kept);
    }

    -- after its chunks it is linked
    module _ {mid : Pool} {r1 r2 : ℕ} (kept : r1 ≡ r0) (chunks : AreChunksEdited e g j runs taken r1 mid r2) where
      pub untabled-left : 0 < r2
      untabled-left = let all = costs in let room = can.room in let left = chunks.room in omega (arith, all, room, left, kept)

      module _ {new : Pool} (puts : Puts e.row g (table_word_of (e.layout.now.base + j)) mid new) (logged : IsLogged (Set e.row g (table_word_of (e.layout.now.base + j))) mid new) where
        made : EditsInGigabyte e g runs first new
        made =
            finish-link e.layout.now e.row g j runs e.access (pages_of first.memory) can.canonical below link can.touched maps (pages_of mid.memory) (pages_of new.memory)
            (subst (λ (x : Pages). IsUnderway e.layout.now e.row g j 512 (edited runs e.access (answers e.layout.now (linked e.layout.now e.row g j x).words e.row)) x (pages_of mid.memory)) marked chunks.edits) puts

        steps : GigabyteInStep e g runs first new
        steps free =
            let layout = e.layout.now in
            let m = pages_of first.memory in
            let v : ℕ → View = row_view layout e.row first in
            let P : Pages → Type 0 = λ s. IsSeated layout e.row g j s → AreFree (λ n. eqb (n / 512 / 512) g) runs e.access (answers layout (linked layout e.row g j s).words e.row)
            → StaysInStep layout e.row (disturbed_below g 512 runs (answers layout (linked layout e.row g j s).words e.row) (edited runs e.access (answers layout (linked layout e.row g j s).words e.row)))
            (λ n. walked n (edited runs e.access (answers layout (linked layout e.row g j s).words e.row) n)) taken mid in
            let passed = stays-linked layout e.row g j runs e.access m can.canonical below link taken mid (same-answers layout e.row g j runs e.access m can.canonical below link can.touched maps) (subst P marked chunks.in_step) free in
            let zero : (pages_of mid.memory).words e.row g ≡ 0 = chunks.edits.root g ∙ ap (λ (s : Pages). s.words e.row g) marked ∙ root-zero layout m e.row g can.canonical.orderly e.inside below none in
            stays-after {b = mid} (stays-after {b = taken} (stays-taken (ap (λ (s : Pool). words_of s.memory.words) is) (ap (λ (s : Pool). s.operations) is) (ap (λ (s : Pool). s.made) is)) passed)
            (stays-root layout e.row g (table_word_of (layout.base + j)) _ _ mid new (forest-unlinked layout e.row g j (pages_of mid.memory) chunks.edits.orderly e.inside zero) e.inside (ap (λ w. w % 2) zero)
            (λ n small at.
            let nothing : v n ≡ None = ap answer_of (untabled layout m e.row n can.canonical.orderly e.inside small (ap (λ q. table_at layout m.words (Gigabyte e.row q)) at ∙ none)) in
            gives-new g runs e.access v n (walk layout (words_of new.memory.words) e.row n) at nothing
            (let here : (eqb e.row e.row && eqb (n / 512 / 512) g) ≡ true = grind (arith, nat_tests) in made.walks e.row n small ∙ ap (λ b. cond b (walked n (edited runs e.access v n)) (walk layout m.words e.row n)) here))
            (ap (λ (s : Pages). s.words) puts) logged)

        pub untabled-edited : {r3 : ℕ} → r3 + 1 ≡ r2 → IsGigabyteEdited e g runs first r0 new r3
        untabled-edited last = record {
          edits = made;
          in_step = steps;
          room = let all = costs in let left = chunks.room in omega (arith, all, left, kept, last);
        }
