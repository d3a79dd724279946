-- The edit of one chunk at its site: what its word and its outcome tell of it.
use Rattle.std.proofs.Common.{◌≡◌, ℕ, ◌+◌, ◌||◌, Bool, true, false, is_some, Some, None, refl, sym, ap, ◌∙◌, ◌*◌, ◌/◌, arith, ◌%◌}
use Rattle.stage2.proofs.Names.{View, Pool, ChunkEdit, Site, edited, block_answer, IsOutcome, IsAt, IsSpelled, TurnsChunk, IsSeatedAt, StaysAtChunk, OthersAnswer, GrowsChunk, ChunkInStep, slot_at, read_after, chunk_view, chunk_after, words_left, operations_in_table, tells, reached_in, Slot, Next, next_page}
use Rattle.stage2.specs.inner.Clauses.{IsTableOf, AnswersAll, BecomesAlike, BecomesMixed, operations_kept}
use Rattle.stage2.proofs.Editing.ChunkRoom.{dropped-words, kept-words, hung-words, hung-some}
use Rattle.stage2.proofs.Editing.FourChunkEdits.{outcome-read, others-before, third-inside, third-taken, growing, before-block}
use Rattle.stage2.proofs.Editing.Spelled.{spelled-words}
use Rattle.stage2.proofs.Editing.TurnedRuns.{turned-read}
use Rattle.stage2.proofs.Walkers.Disturbed.{stays-whole, unmixed-after}

module _ (s : Site) (e : ChunkEdit) (pool : Pool) (at : IsAt s e pool) where
  -- by the word that was read
  module _ {read : Slot} (is : read ≡ slot_at s e pool) where
    pub read-before : next_page (slot_at s e pool) ≡ None → {before : View} → before ≡ block_answer read → AnswersAll s e before pool
    read-before none answers n here = before-block at none n here ∙ ap block_answer (sym is) ∙ sym answers

    -- its pages are told alike, or mixed
    module _ {b : Bool} (told : IsOutcome e.chunk (read_after e read pool) (tells b e.access)) where
      pub told-alike : b ≡ true → BecomesAlike s e pool
      told-alike t = outcome-read at e.runs e.access read (tells b e.access) (Some e.access) is (ap (λ x. tells x e.access) t) told

      pub told-mixed : b ≡ false → BecomesMixed s e pool
      told-mixed f = outcome-read at e.runs e.access read (tells b e.access) None is (ap (λ x. tells x e.access) f) told

  -- where all pages are reached alike after the edit, each may be disturbed
  pub in-step-alike : BecomesAlike s e pool → {new : Pool} → (IsSeatedAt s e pool → StaysAtChunk e.layout.now s.row e.chunk (chunk_after s e pool) pool new) → ChunkInStep s e pool new
  in-step-alike alike {new} stays seated free =
      stays-whole e.layout.now s.row e.chunk e.runs e.access (chunk_view s e pool) pool new (unmixed-after e.chunk (chunk_view s e pool) (chunk_after s e pool) e.access alike) (stays seated)

  -- a chunk that has a table
  module _ {k : ℕ} (table : slot_at s e pool ≡ Next k) where
    spelled : IsSpelled e k pool
    spelled = spelled-words at k table

    pub is-table : TurnsChunk e (chunk_view s e pool) → IsTableOf e k pool
    is-table turns = record {
      inside = third-inside at k table;
      taken = third-taken at k table;
      spelled = spelled;
      turned = turned-read s e pool at refl k table spelled turns;
    }

    pub others : BecomesAlike s e pool → OthersAnswer k e.chunk e.runs e.access pool
    others alike i small out =
        let n = 512 * e.chunk + i in
        let here : n / 512 ≡ e.chunk = omega (arith, small) in
        let index : n % 512 ≡ i = omega (arith, small) in
        rw (others-before at e.runs e.access k table alike n here out, index) at (spelled n here)

    pub dropped : BecomesAlike s e pool → operations_in_table s e pool ≡ words_left k e pool
    dropped alike = dropped-words at e.runs e.access e.access k table alike

    pub kept : BecomesMixed s e pool → operations_in_table s e pool ≡ operations_kept e
    kept mixed = kept-words at e.runs e.access k table mixed

  -- a chunk that has none, and gets one
  module _ (none : next_page (slot_at s e pool) ≡ None) (mixed : BecomesMixed s e pool) where
    pub grows : GrowsChunk s e pool
    grows = growing at (chunk_after s e pool) none mixed

    pub in-step-hung : {new : Pool} → (IsSeatedAt s e pool → StaysAtChunk e.layout.now s.row e.chunk (chunk_after s e pool) pool new) → ChunkInStep s e pool new
    in-step-hung {new} stays seated free =
        stays-whole e.layout.now s.row e.chunk e.runs e.access (chunk_view s e pool) pool new (rw grows.was refl) (stays seated)

    module _ {before : View} (all : AnswersAll s e before pool) where
      pub some-hung : (is_some before || is_some e.access) ≡ true
      some-hung = hung-some at e.runs e.access before none mixed all

      pub hung : operations_in_table s e pool ≡ reached_in (edited e.runs e.access (λ n. before)) e.chunk
      hung = hung-words at e.runs e.access before none mixed all
