-- Writes by which tables are filled, linked, cut off and given back, and what walks under way see of them.
use Rattle.std.proofs.Common.{◌≡◌, ◌≢◌, ℕ, ◌+◌, ◌*◌, ◌/◌, ◌%◌, ◌^◌, ◌<◌, Bool, true, false, ◌&&◌, eqb, List, ◌∷◌, Some, None, length, arith, ap, sym, ◌∙◌, subst, inl, inr}
use Rattle.stage2.proofs.Names.{nat_tests, PageRun, in_run, row_of, Words, put, Op, Set, Invalidate, Walked, Layout, Empty, slot, index_1, index_2, index_3, at_1, at_2, walk, Place, Root, Gigabyte, Chunk, next_page, chunk_table, table_at, IsPlace, IsForest, IsInvalid, BreaksFirst, OpenCall, MayGive, IsInStep, nothing, common_steps, Unmapped}
use Rattle.stage2.proofs.Tree.WalkFrame.{put-other, put-same, walk-same, other_table, table_at-gigabyte, table_at-chunk, table_at-root, IsUnheld, table_at-unheld, walk-unheld, IsLevel2Write, table_at-level_2-other, walk-level_2, walk-level_2-other, walk-gigabyte, table_at-chunk_in}
use Rattle.stage2.proofs.Tree.RootWrites.{is_pair}
use Rattle.stage2.proofs.Walkers.Level3Write.{slot-zero}
use Rattle.stage2.proofs.Walkers.InStep.{IsFine, may-now, orderly-set, orderly-cut, gigabyte-now}
use Rattle.stage2.proofs.Tree.LinkTable.{walk-inside}
use Rattle.stage2.proofs.Walkers.BreakBeforeMake.{invalid-empty, none-stood}
use Rattle.stage2.proofs.Walkers.ZeroedTables.{breaks-zero}

-- ---- pages whose walks do not change

-- a page whose tables and walk stay
pub fine-same : (e : OpenCall) (due : Bool) (words new : Words) (q n : ℕ)
    → table_at e.layout new (Gigabyte q (index_1 n)) ≡ table_at e.layout words (Gigabyte q (index_1 n)) → table_at e.layout new (Chunk q (n / 512)) ≡ table_at e.layout words (Chunk q (n / 512))
    → walk e.layout new q n ≡ walk e.layout words q n → MayGive e q n (walk e.layout words q n) → IsFine e due due words new q n
fine-same e due words new q n gigabyte chunk same may = grind (arith, common_steps, nat_tests)

-- a page that was not mapped, on whose way a table may be new
pub fine-made : (e : OpenCall) (words new : Words) (q n : ℕ)
    → ((j : ℕ) → table_at e.layout words (Gigabyte q (index_1 n)) ≡ Some j → table_at e.layout new (Gigabyte q (index_1 n)) ≡ Some j)
    → ((k : ℕ) → table_at e.layout words (Chunk q (n / 512)) ≡ Some k → table_at e.layout new (Chunk q (n / 512)) ≡ Some k)
    → walk e.layout words q n ≡ Unmapped → MayGive e q n (walk e.layout new q n) → IsFine e (eqb q e.row && false) (eqb q e.row && false) words new q n
fine-made e words new q n gigabyte chunk none may = record { gigabyte = gigabyte; chunk = chunk; may = may; owed = λ free. (free, inr none) }

-- where nothing is due, an invalid word of a table that hangs may become any
pub breaks-invalid : (e : OpenCall) (words : Words) (past : List Op) (page index word : ℕ) → IsInStep e nothing words past → IsInvalid (words page index)
    → (a : Place) → IsPlace e.layout a → table_at e.layout words a ≡ Some page → BreaksFirst e.layout e.entry past page index word
breaks-invalid e words past page index word o invalid a inside at = record {
  breaks = λ valid. absurd (valid (ap (λ (w : Words). w page index % 2) (sym o.exact) ∙ invalid));
  makes = λ valid row n moment stood. none-stood e nothing words past o stood.place page index stood.inside invalid row n stood.small stood.stands (grind (arith, common_steps, nat_tests)) moment stood.since stood.hung;
}

-- ---- a page that hangs nowhere is filled, or set to 0

pub orderly-unheld : (e : OpenCall) (due : ℕ → Bool) (words : Words) (past : List Op) (page index word : ℕ) → IsUnheld e.layout words page → IsInStep e due words past → IsInStep e due (put page index word words) (Set page index word ∷ past)
orderly-unheld e due words past page index word unheld o =
    orderly-set e due due words past page index word o
    (λ q n inside small.
    fine-same e (eqb q e.row && due n) words (put page index word words) q n
    (table_at-unheld e.layout words page index word unheld (Gigabyte q (index_1 n)) (inside, omega arith))
    (table_at-unheld e.layout words page index word unheld (Chunk q (n / 512)) (inside, omega arith))
    (walk-unheld e.layout words page index word unheld q n small)
    (may-now e due words past o q n inside small))
    (λ a inside at. absurd (unheld a inside at))

-- ---- a word of a level 2 table

fine-level_2-other : (e : OpenCall) (due : ℕ → Bool) (words : Words) (past : List Op) (p g j i word q x : ℕ) → IsLevel2Write e.layout words p g j i word → IsInStep e due words past → q < length e.layout.ids → x < 2 ^ 27
    → (q ≡ p → x / 512 ≡ 512 * g + i → ⊥) → IsFine e (eqb q e.row && due x) (eqb q e.row && due x) words (put j i word words) q x
fine-level_2-other e due words past p g j i word q x h o inside small other = grind (arith, common_steps, nat_tests, fine-same, table_at-level_2-other, walk-level_2-other e.layout words p g j i word h q x small other, may-now e due words past o q x inside small)

-- an invalid one becomes a block, or points at a table that was filled
pub orderly-level_2 : (e : OpenCall) (words : Words) (past : List Op) (g j i word : ℕ) → IsLevel2Write e.layout words e.row g j i word → IsInvalid (words j i)
    → ((x : ℕ) → x < 2 ^ 27 → x / 512 ≡ 512 * g + i → MayGive e e.row x (walk e.layout (put j i word words) e.row x)) → IsInStep e nothing words past
    → IsInStep e nothing (put j i word words) (Set j i word ∷ past)
orderly-level_2 e words past g j i word h invalid may o =
    let new = put j i word words in
    orderly-set e nothing nothing words past j i word o
    (λ q x inside small. elim (is_pair e.row (512 * g + i) q (x / 512)) [
      | inl at ↦
          let gigabyte : index_1 x ≡ g = let c = at.1 in omega (arith, h.index) in
          let index : index_2 x ≡ i = let c = at.1 in omega (arith, h.index) in
          let here : table_at e.layout words (Gigabyte q (index_1 x)) ≡ Some j = rw (at.0, gigabyte) h.table in
          let empty : slot e.layout 2 (words j (index_2 x)) ≡ Empty = rw index (invalid-empty e.layout 2 (words j i) invalid) in
          let none : walk e.layout words q x ≡ Unmapped = walk-gigabyte e.layout words q x j inside here ∙ ap (at_2 e.layout words x) empty in
          let nowhere : table_at e.layout words (Chunk q (x / 512)) ≡ None = table_at-chunk_in e.layout words q (x / 512) j here ∙ ap next_page empty in
          let gives : MayGive e q x (walk e.layout new q x) = rw at.0 (may x small at.1) in
          fine-made e words new q x (λ k f. table_at-level_2-other e.layout words e.row g j i word h (Gigabyte q (index_1 x)) (inside, omega arith) (λ b. cc) ∙ f) (λ k f. absurd (cc)) none gives
      | inr other ↦ fine-level_2-other e nothing words past e.row g j i word q x h o inside small other
    ])
    (breaks-invalid e words past j i word o invalid)

-- it becomes 0, and the chunk is invalidated: the table or the block that stood there is cut off
pub orderly-cut_chunk : (e : OpenCall) (due : ℕ → Bool) (words : Words) (past : List Op) (g j i who : ℕ) → IsLevel2Write e.layout words e.row g j i 0 → row_of e.layout.ids who ≡ e.row
    → ((x : ℕ) → x < 2 ^ 27 → x / 512 ≡ 512 * g + i → MayGive e e.row x Unmapped) → IsInStep e due words past
    → IsInStep e due (put j i 0 words) (Invalidate who (record { first = 512 * (512 * g + i); count = 512 }) ∷ Set j i 0 ∷ past)
orderly-cut_chunk e due words past g j i who h is gives o =
    let new = put j i 0 words in
    let run : PageRun = record { first = 512 * (512 * g + i); count = 512 } in
    orderly-cut e due words past j i who run o
    (λ q x inside small. elim (is_pair e.row (512 * g + i) q (x / 512)) [
      | inl at ↦
          let covered : (eqb (row_of e.layout.ids who) q && in_run run x) ≡ true = let c = at.1 in let r = at.0 in grind (arith, nat_tests) in
          let gone : walk e.layout new q x ≡ Unmapped = rw at.0 (walk-level_2 e.layout words e.row g j i 0 h x at.1 ∙ ap (at_2 e.layout new x) (slot-zero e.layout 2)) in
          inr (
            covered,
            record {
              second = λ k f. inl (table_at-level_2-other e.layout words e.row g j i 0 h (Gigabyte q (index_1 x)) (inside, omega arith) (λ b. cc) ∙ f);
              third = λ k f. other_table e.layout words (Gigabyte e.row g) (Chunk q (x / 512)) j k i 0 h.forest (h.partition, h.gigabyte) (inside, omega arith) h.table f (λ b. cc) (index_3 x);
              may = rw (gone, at.0) (gives x small at.1);
            },
          )
      | inr other ↦ inl (fine-level_2-other e due words past e.row g j i 0 q x h o inside small other)
    ])
    (λ a inside at. breaks-zero e.layout e.entry past j i)

-- the write of 0 at a chunk
pub level_2-zero : (layout : Layout) (words : Words) (row c j : ℕ) → IsForest layout words → row < length layout.ids → c < 262144 → table_at layout words (Gigabyte row (c / 512)) ≡ Some j → IsLevel2Write layout words row (c / 512) j (c % 512) 0
level_2-zero layout words row c j forest partition small table = grind (arith, common_steps, nat_tests, slot-zero)

-- ---- a word of a root

module _ (e : OpenCall) (words : Words) (g word : ℕ) (forest : IsForest e.layout words) (partition : e.row < length e.layout.ids) where
  -- all other tables keep their words
  below-root : (b : Place) (k : ℕ) → IsPlace e.layout b → table_at e.layout words b ≡ Some k → Root e.row ≢ b → (x : ℕ) → put e.row g word words k x ≡ words k x
  below-root b k inside at differ x = other_table e.layout words (Root e.row) b e.row k g word forest partition inside (table_at-root e.layout words e.row) at differ x

  fine-root-other : (due : ℕ → Bool) (past : List Op) (q x : ℕ) → IsInStep e due words past → q < length e.layout.ids → x < 2 ^ 27 → (q ≡ e.row → index_1 x ≡ g → ⊥)
      → IsFine e (eqb q e.row && due x) (eqb q e.row && due x) words (put e.row g word words) q x
  fine-root-other due past q x o inside small other =
      let new = put e.row g word words in
      let first : new q (index_1 x) ≡ words q (index_1 x) = put-other words e.row g word q (index_1 x) other in
      let second : (j : ℕ) → table_at e.layout words (Gigabyte q (index_1 x)) ≡ Some j → new j (index_2 x) ≡ words j (index_2 x) = λ j at. below-root (Gigabyte q (index_1 x)) j (inside, omega arith) at (λ f. cc) (index_2 x) in
      let third : (k : ℕ) → table_at e.layout words (Chunk q (x / 512)) ≡ Some k → new k (index_3 x) ≡ words k (index_3 x) = λ k at. below-root (Chunk q (x / 512)) k (inside, omega arith) at (λ f. cc) (index_3 x) in
      fine-same e (eqb q e.row && due x) words new q x
      (table_at-gigabyte e.layout words new q (index_1 x) first)
      (table_at-chunk e.layout words new q (x / 512) (record { first = first; second = second }))
      (walk-same e.layout words new new new q x (λ _. record { first = first; second = second; third = third }))
      (may-now e due words past o q x inside small)

-- below a gigabyte without a table no table hangs
pub no-table-below : (layout : Layout) (words : Words) (q c : ℕ) → table_at layout words (Gigabyte q (c / 512)) ≡ None → table_at layout words (Chunk q c) ≡ None
unfolding table_at
no-table-below layout words q c none = ap (chunk_table layout words c) none

-- an invalid one points at a level 2 table that was filled
pub orderly-root : (e : OpenCall) (words : Words) (past : List Op) (g word : ℕ) → IsForest e.layout words → e.row < length e.layout.ids → IsInvalid (words e.row g)
    → ((x : ℕ) → x < 2 ^ 27 → index_1 x ≡ g → MayGive e e.row x (walk e.layout (put e.row g word words) e.row x)) → IsInStep e nothing words past
    → IsInStep e nothing (put e.row g word words) (Set e.row g word ∷ past)
orderly-root e words past g word forest partition invalid may o =
    let new = put e.row g word words in
    orderly-set e nothing nothing words past e.row g word o
    (λ q x inside small. elim (is_pair e.row g q (index_1 x)) [
      | inl at ↦ grind (arith, common_steps, nat_tests, invalid-empty, gigabyte-now, walk-inside, fine-made, no-table-below)
      | inr other ↦ fine-root-other e words g word forest partition nothing past q x o inside small other
    ])
    (breaks-invalid e words past e.row g word o invalid)

-- it becomes 0, and the gigabyte, where nothing is mapped, is invalidated: its table is cut off
pub orderly-cut_gigabyte : (e : OpenCall) (due : ℕ → Bool) (words : Words) (past : List Op) (g who : ℕ) → IsForest e.layout words → e.row < length e.layout.ids → row_of e.layout.ids who ≡ e.row
    → ((x : ℕ) → x < 2 ^ 27 → index_1 x ≡ g → walk e.layout words e.row x ≡ Unmapped) → IsInStep e due words past
    → IsInStep e due (put e.row g 0 words) (Invalidate who (record { first = 262144 * g; count = 262144 }) ∷ Set e.row g 0 ∷ past)
orderly-cut_gigabyte e due words past g who forest partition is unmapped o =
    let new = put e.row g 0 words in
    let run : PageRun = record { first = 262144 * g; count = 262144 } in
    orderly-cut e due words past e.row g who run o
    (λ q x inside small. elim (is_pair e.row g q (index_1 x)) [
      | inl at ↦
          let covered : (eqb (row_of e.layout.ids who) q && in_run run x) ≡ true = let c = at.1 in let r = at.0 in grind (arith, nat_tests) in
          let word : new q (index_1 x) ≡ 0 = rw (at.0, at.1) (put-same words e.row g 0) in
          let gone : walk e.layout new q x ≡ Unmapped = walk-inside e.layout new q x inside ∙ ap (λ w. at_1 e.layout new new x (slot e.layout 1 w)) word ∙ ap (at_1 e.layout new new x) (slot-zero e.layout 1) in
          let was : walk e.layout words q x ≡ Unmapped = rw at.0 (unmapped x small at.1) in
          inr (
            covered,
            record {
              second = λ j f. inr (below-root e words g 0 forest partition (Gigabyte q (index_1 x)) j (inside, omega arith) f (λ b. cc) (index_2 x));
              third = λ k f. below-root e words g 0 forest partition (Chunk q (x / 512)) k (inside, omega arith) f (λ b. cc) (index_3 x);
              may = subst (λ (a : Walked). MayGive e q x a) (was ∙ sym gone) (may-now e due words past o q x inside small);
            },
          )
      | inr other ↦ inl (fine-root-other e words g 0 forest partition due past q x o inside small other)
    ])
    (λ a inside at. breaks-zero e.layout e.entry past e.row g)
