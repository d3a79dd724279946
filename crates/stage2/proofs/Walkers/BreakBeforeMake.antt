-- Where nothing is due, an invalid word of a table that hangs has had no valid one before it since its pages were invalidated.
use Rattle.std.proofs.Common.{arith, ◌≡◌, ℕ, ◌/◌, ◌^◌, ◌<◌, Bool, false, ◌&&◌, eqb, List, Some, None, length, refl, ap, sym, ◌∙◌, subst}
use Rattle.stage2.proofs.Names.{nat_tests, common_steps, Words, Op, Layout, Slot, Empty, Next, Maps, Bad, slot, slot_from, index_1, index_2, index_3, at_1, at_2, at_3, walk, Place, Gigabyte, Chunk, next_page, chunk_table, table_at, IsPlace, words_after, Since, Walker, Begins, Ends, from_1, from_2, UnderWay, begins, reads, IsInvalid, OpenCall, IsInStep, Unmapped}
use Rattle.words.proofs.RoundTrip.{word-invalid, entry-invalid}
use Rattle.stage2.specs.Moments.{Second, Third, StandsFor}
use Rattle.stage2.proofs.Tree.WalkFrame.{table_at-root, table_at-chunk_in, walk-gigabyte, walk-chunk}
use Rattle.stage2.proofs.Walkers.UnderWay.{outlast}
use Rattle.stage2.proofs.Walkers.InStep.{gigabyte-now}
use Rattle.stage2.proofs.Tree.LinkTable.{walk-inside}

-- ---- invalid words

pub empty-invalid : (layout : Layout) (level word : ℕ) → slot layout level word ≡ Empty → IsInvalid word
unfolding slot
empty-invalid layout level word e = word-invalid level word (grind (arith, common_steps, nat_tests))

pub invalid-empty : (layout : Layout) (level word : ℕ) → IsInvalid word → slot layout level word ≡ Empty
unfolding slot
invalid-empty layout level word e = ap (slot_from layout) (entry-invalid level word e)

-- ---- walks to the tables that hang

from_1-next : (s : Slot) (j : ℕ) → next_page s ≡ Some j → from_1 s ≡ Second j
from_1-next s j e = grind (arith, common_steps, nat_tests)

module _ (layout : Layout) (entry : Words) (row n : ℕ) (moment : List Op) where
  first-read : UnderWay layout entry row n moment (from_1 (slot layout 1 (words_after moment entry row (index_1 n))))
  first-read = reads moment Begins (begins moment)

  pub second-at : (j : ℕ) → table_at layout (words_after moment entry) (Gigabyte row (index_1 n)) ≡ Some j → UnderWay layout entry row n moment (Second j)
  second-at j e = subst (λ (w : Walker). UnderWay layout entry row n moment w) (from_1-next (slot layout 1 (words_after moment entry row (index_1 n))) j (sym (gigabyte-now layout (words_after moment entry) row (index_1 n)) ∙ e)) first-read

  third-from : (s : Slot) (k : ℕ) → slot layout 1 (words_after moment entry row (index_1 n)) ≡ s → chunk_table layout (words_after moment entry) (n / 512) (next_page s) ≡ Some k → UnderWay layout entry row n moment (Third k)
  third-from Empty k is e = cc
  third-from (Next j) k is e =
      let two = second-at j (gigabyte-now layout (words_after moment entry) row (index_1 n) ∙ ap next_page is) in
      subst (λ (w : Walker). UnderWay layout entry row n moment w) (grind (arith, common_steps, nat_tests)) (reads moment (Second j) two)
  third-from (Maps m a) k is e = cc
  third-from Bad k is e = cc

  pub third-at : (k : ℕ) → table_at layout (words_after moment entry) (Chunk row (n / 512)) ≡ Some k → UnderWay layout entry row n moment (Third k)
  unfolding table_at
  third-at k e = third-from (slot layout 1 (words_after moment entry row (index_1 n))) k refl e

-- ---- a walk that read the word

module _ (e : OpenCall) (due : ℕ → Bool) (words : Words) (past moment : List Op) (h : IsInStep e due words past) (row n : ℕ) (inside : row < length e.layout.ids) (small : n < 2 ^ 27) (free : (eqb row e.row && due n) ≡ false) (since : Since e.layout row n moment past) where
  second-stands : (j : ℕ) → UnderWay e.layout e.entry row n moment (Second j) → table_at e.layout words (Gigabyte row (index_1 n)) ≡ Some j
  second-stands j u = h.stands row n inside small (Second j) (outlast e.layout e.entry row n moment past (Second j) since u)

  third-stands : (k : ℕ) → UnderWay e.layout e.entry row n moment (Third k) → table_at e.layout words (Chunk row (n / 512)) ≡ Some k
  third-stands k u = h.stands row n inside small (Third k) (outlast e.layout e.entry row n moment past (Third k) since u)

  -- a root
  root_slot : (s : Slot) → UnderWay e.layout e.entry row n moment (from_1 s) → table_at e.layout words (Gigabyte row (index_1 n)) ≡ None → walk e.layout words row n ≡ Unmapped → s ≡ Empty
  root_slot s u table none = grind (arith, common_steps, nat_tests, second-stands, outlast)

  -- a level 2 table
  second_slot : (s : Slot) → UnderWay e.layout e.entry row n moment (from_2 n s) → table_at e.layout words (Chunk row (n / 512)) ≡ None → walk e.layout words row n ≡ Unmapped → s ≡ Empty
  second_slot s u table none = grind (arith, common_steps, nat_tests, third-stands, outlast)

  -- a level 3 table
  third_slot : (s : Slot) → UnderWay e.layout e.entry row n moment (Ends (at_3 s)) → walk e.layout words row n ≡ Unmapped → s ≡ Empty
  third_slot s u none = grind (arith, common_steps, nat_tests, outlast)

  -- where it is invalid now, it was so then
  pub invalid-root : IsInvalid (words row (index_1 n)) → IsInvalid (words_after moment e.entry row (index_1 n))
  invalid-root invalid =
      let empty = invalid-empty e.layout 1 (words row (index_1 n)) invalid in
      let none : table_at e.layout words (Gigabyte row (index_1 n)) ≡ None = gigabyte-now e.layout words row (index_1 n) ∙ ap next_page empty in
      let nowhere : walk e.layout words row n ≡ Unmapped = walk-inside e.layout words row n inside ∙ ap (at_1 e.layout words words n) empty in
      empty-invalid e.layout 1 (words_after moment e.entry row (index_1 n)) (root_slot (slot e.layout 1 (words_after moment e.entry row (index_1 n))) (reads moment Begins (begins moment)) none nowhere)

  pub invalid-second : (j : ℕ) → table_at e.layout (words_after moment e.entry) (Gigabyte row (index_1 n)) ≡ Some j
      → IsInvalid (words j (index_2 n)) → IsInvalid (words_after moment e.entry j (index_2 n))
  invalid-second j at_then invalid =
      let at : table_at e.layout words (Gigabyte row (index_1 n)) ≡ Some j = second-stands j (second-at e.layout e.entry row n moment j at_then) in
      let empty = invalid-empty e.layout 2 (words j (index_2 n)) invalid in
      let none : table_at e.layout words (Chunk row (n / 512)) ≡ None = table_at-chunk_in e.layout words row (n / 512) j at ∙ ap next_page empty in
      let nowhere : walk e.layout words row n ≡ Unmapped = walk-gigabyte e.layout words row n j inside at ∙ ap (at_2 e.layout words n) empty in
      empty-invalid e.layout 2 (words_after moment e.entry j (index_2 n))
      (second_slot (slot e.layout 2 (words_after moment e.entry j (index_2 n))) (reads moment (Second j) (second-at e.layout e.entry row n moment j at_then)) none nowhere)

  pub invalid-third : (k : ℕ) → table_at e.layout (words_after moment e.entry) (Chunk row (n / 512)) ≡ Some k
      → IsInvalid (words k (index_3 n)) → IsInvalid (words_after moment e.entry k (index_3 n))
  invalid-third k at_then invalid =
      let at : table_at e.layout words (Chunk row (n / 512)) ≡ Some k = third-stands k (third-at e.layout e.entry row n moment k at_then) in
      let nowhere : walk e.layout words row n ≡ Unmapped = walk-chunk e.layout words row n k inside at ∙ ap at_3 (invalid-empty e.layout 3 (words k (index_3 n)) invalid) in
      empty-invalid e.layout 3 (words_after moment e.entry k (index_3 n))
      (third_slot (slot e.layout 3 (words_after moment e.entry k (index_3 n))) (reads moment (Third k) (third-at e.layout e.entry row n moment k at_then)) nowhere)

-- a word that is invalid, of a table that hangs, may become valid where nothing is due
pub none-stood : (e : OpenCall) (due : ℕ → Bool) (words : Words) (past : List Op) → IsInStep e due words past → (a : Place) (page index : ℕ) → IsPlace e.layout a → IsInvalid (words page index)
    → (row n : ℕ) → n < 2 ^ 27 → StandsFor a index row n → (eqb row e.row && due n) ≡ false → (moment : List Op) → Since e.layout row n moment past
    → table_at e.layout (words_after moment e.entry) a ≡ Some page → IsInvalid (words_after moment e.entry page index)
none-stood e due words past h a page index inside invalid row n small stands free moment since at_then = grind (arith, common_steps, nat_tests, table_at-root, invalid-root, invalid-second, invalid-third)
