-- An edit of the tables, and the clears of its pages before it or after it.
use Rattle.std.proofs.Common.{◌≡◌, ℕ, ◌+◌, ◌^◌, ◌<◌, true, ◌&&◌, cond, eqb, ltb, eq-eqb, List, [], ◌∷◌, ◌++◌, length, take, reverse, get_or, None, Some, refl, sym, ap, subst, ◌∙◌, ◌⊎◌, inl, inr, arith}
use Rattle.std.proofs.lemmas.Bool.{cases_Bool, eqb-true}
use Rattle.std.specs.List.{list_any}
use Rattle.std.proofs.lemmas.List.{length-map}
use Rattle.std.proofs.lemmas.Bool.Decides.{nat_tests}
use Rattle.base.specs.Access.{Access, View}
use Rattle.base.specs.Manifest.{PartitionRow, ManifestRows, ids_of, row_of, is_partition}
use Rattle.manifest.specs.Valid.{is_valid}
use Rattle.manifest.proofs.Facts.{facts, row_of-id}
use Rattle.std.proofs.lemmas.List.{take_more, reverse-append}
use Rattle.base.specs.Pages.{PageRun, in_run, covers}
use Rattle.pool.specs.Pool.{Memory, words_of, all_lie_in}
use Rattle.stage2.specs.declared.walked.Walked.TheVariants.{None as Unmapped}
use Rattle.stage2.specs.Slot.{Layout, layout_of}
use Rattle.stage2.specs.Tables.{TablesView, walk_in, has_root, ReachSo, EditsInStep, AreUnmappedForAll, ClearsInStep, edit_from, IsCallInStep}
use Rattle.stage2.specs.Walk.{walk, walked, translation}
use Rattle.stage2.proofs.Editing.GigabyteByGigabyte.{covers-at}
use Rattle.stage2.proofs.Walkers.WholeCall.{free-views, call-begun, call-edited, call-ended}
use Rattle.rules.specs.Rule.{Edit}
use Rattle.spm.specs.Clearing.{clears_of, AreRowsOfPartitions, AreUnreached, ClearsInCall, ShowsOne}

-- a partition of the manifest has a root
pub has_its_root : (m : ManifestRows) (t : TablesView) (p : ℕ) → t.layout ≡ layout_of m → is_partition m p ≡ true → has_root t p ≡ true
has_its_root m t p placed known = ap (λ (l : Layout). ltb (row_of l.ids p) (length l.ids)) placed ∙ has_row m.partitions known
  where
    has_row : (rows : List PartitionRow) → list_any (λ row. eqb row.id p) rows ≡ true → ltb (row_of (ids_of rows) p) (length (ids_of rows)) ≡ true
    has_row [] e = absurd cc
    has_row (row ∷ rows) e = elim (cases_Bool (eqb row.id p)) [
      | inl t ↦ rw t (grind (arith, nat_tests))
      | inr f ↦
          let rest = has_row rows (rw f at e) in
          rw f (grind (arith, nat_tests))
    ]

-- and each row is that of one
pub rows_of_partitions : (m : ManifestRows) (layout : Layout) → layout ≡ layout_of m → is_valid m ≡ true → AreRowsOfPartitions layout.ids
rows_of_partitions m layout placed valid = subst (λ (l : Layout). AreRowsOfPartitions l.ids) (sym placed) (λ row inside. (get_or (ids_of m.partitions) row 0, row_of-id 0 m.partitions row (facts m valid).rise (let same : length (ids_of m.partitions) ≡ length m.partitions = length-map m.partitions (λ (row : PartitionRow). row.id) in omega (arith, same, inside))))

-- where no partition reaches the pages, no row does
unreached : (edit : Edit) (t : TablesView) → AreRowsOfPartitions t.layout.ids → ((p n : ℕ) → n < 2 ^ 27 → covers edit.runs n ≡ true → walk_in t p n ≡ Unmapped) → AreUnreached edit t
unreached edit t rows none ordered row n inside small here =
    let p = rows row inside in
    ap (λ r. walk t.layout (words_of t.pool.memory.words) r n) (sym p.1) ∙ none p.0 n small here

-- a walk over the words that stay
same_walk : (old new : TablesView) (p n : ℕ) → new.layout ≡ old.layout → new.pool.memory ≡ old.pool.memory → walk_in new p n ≡ walk_in old p n
same_walk old new p n placed memory =
    ap (λ (l : Layout). translation l (words_of new.pool.memory.words) p n) placed
    ∙ ap (λ (m : Memory). translation old.layout (words_of m.words) p n) memory

-- ---- run by run

-- of the runs before this one, then of those before the next
pub cleared-on : (edit : Edit) (first old new : TablesView) (i : ℕ) (run : PageRun) → i < length edit.runs → run ≡ get_or edit.runs i run → old.layout ≡ first.layout → old.pool.memory ≡ first.pool.memory → edit.clears ≡ true
    → ClearsInStep run old new → AreUnreached edit first → (entry : TablesView) → entry.layout ≡ first.layout → IsCallInStep entry edit.who edit.runs edit.to (reverse (take i edit.runs)) old → IsCallInStep entry edit.who edit.runs edit.to (reverse (take (i + 1) edit.runs)) new
cleared-on edit first old new i run inside is placed memory ordered clears none entry at begun =
    let here : (row n : ℕ) → row < length first.layout.ids → n < 2 ^ 27 → in_run run n ≡ true → walk first.layout (words_of first.pool.memory.words) row n ≡ Unmapped = λ row n lt small e. none ordered row n lt small (covers-at edit.runs i n run inside is e) in
    let unmapped : AreUnmappedForAll run old =
    subst (λ (l : Layout). (row n : ℕ) → row < length l.ids → n < 2 ^ 27 → in_run run n ≡ true → walk l (words_of old.pool.memory.words) row n ≡ Unmapped) (sym placed)
    (subst (λ (m : Memory). (row n : ℕ) → row < length first.layout.ids → n < 2 ^ 27 → in_run run n ≡ true → walk first.layout (words_of m.words) row n ≡ Unmapped) (sym memory) here) in
    let one : reverse (take (i + 1) edit.runs) ≡ run ∷ reverse (take i edit.runs) = ap reverse (take_more edit.runs i run inside ∙ ap (λ r. take i edit.runs ++ (r ∷ [])) (sym is)) ∙ reverse-append (take i edit.runs) (run ∷ []) in
    subst (λ cs. IsCallInStep entry edit.who edit.runs edit.to cs new) (sym one) (clears unmapped (edit_from entry edit.who edit.runs edit.to (reverse (take i edit.runs))) (at ∙ sym placed) begun)

-- ---- the whole call

module _ (edit : Edit) (old mid new : TablesView) (root : has_root old edit.who ≡ true) (rows : AreRowsOfPartitions old.layout.ids) where
  -- the pages are unmapped, and then cleared
  pub unmapped-shown : edit.to ≡ None → mid.layout ≡ old.layout → new.layout ≡ mid.layout → new.pool.memory ≡ mid.pool.memory
      → ReachSo edit.who edit.runs edit.to old mid → EditsInStep edit.who edit.runs edit.to old mid → ClearsInCall edit mid new → all_lie_in new.pool ≡ true → ShowsOne edit old new
  unmapped-shown gone placed after memory walks edits clears within begun before starts free others =
      let in_step = call-edited old old mid edit.who edit.runs edit.to [] (call-begun old edit.who edit.runs edit.to begun) edits refl refl (free-views old before edit.who edit.runs edit.to starts free) in
      let away : edit.clears ≡ true → (p n : ℕ) → n < 2 ^ 27 → covers edit.runs n ≡ true → walk_in mid p n ≡ Unmapped = λ ordered p n small here. walks p n small ∙ elim (cases_Bool (eqb p edit.who)) [
        | inl t ↦ rw (t, here, gone) refl
        | inr f ↦ rw f (starts p n small ∙ ap (walked n) (others ordered p n here (λ e. let own : eqb p edit.who ≡ true = rw e (own_is edit.who) in absurd cc)))
      ] in
      let mid_rows : AreRowsOfPartitions mid.layout.ids = subst (λ (l : Layout). AreRowsOfPartitions l.ids) (sym placed) rows in
      let ended = clears (λ ordered. unreached edit mid mid_rows (away ordered) ordered) old (sym placed) in_step in
      record {
        moments = call-ended old new before edit.who edit.runs edit.to (clears_of edit) root (after ∙ placed) starts free (λ p n small. same_walk mid new p n after memory ∙ walks p n small) ended within;
        cleared = ended.orderly.cleared;
      }
    where
      own_is : (x : ℕ) → eqb x x ≡ true
      own_is x = eq-eqb x x refl

  -- the pages are cleared, and then mapped
  pub mapped-shown : (access : Access) → edit.to ≡ Some access → mid.layout ≡ old.layout → mid.pool.memory ≡ old.pool.memory → new.layout ≡ mid.layout
      → ReachSo edit.who edit.runs edit.to mid new → EditsInStep edit.who edit.runs edit.to mid new → ClearsInCall edit old mid → all_lie_in new.pool ≡ true → ShowsOne edit old new
  mapped-shown access some placed memory after walks edits clears within begun before starts free others =
      let apart : edit.clears ≡ true → (p n : ℕ) → n < 2 ^ 27 → covers edit.runs n ≡ true → walk_in old p n ≡ Unmapped = λ ordered p n small here. starts p n small ∙ ap (walked n) (elim (cases_Bool (eqb p edit.who)) [
        | inl t ↦ let own : p ≡ edit.who = eqb-true _ _ t in ap (λ q. before q n) own ∙ not_reached n (free n small here)
        | inr f ↦ others ordered p n here (λ e. let own : eqb p edit.who ≡ true = rw e (own_is edit.who) in absurd cc)
      ]) in
      let cleared = clears (λ ordered. unreached edit old rows (apart ordered) ordered) old refl (call-begun old edit.who edit.runs edit.to begun) in
      let ended = call-edited old mid new edit.who edit.runs edit.to (clears_of edit) cleared edits placed (ap (λ (m : Memory). words_of m.words) memory) (free-views old before edit.who edit.runs edit.to starts free) in
      record {
        moments = call-ended old new before edit.who edit.runs edit.to (clears_of edit) root (after ∙ placed) starts free (λ p n small. walks p n small ∙ ap (λ w. cond (eqb p edit.who && covers edit.runs n) (walked n edit.to) w) (same_walk old mid p n placed memory)) ended within;
        cleared = ended.orderly.cleared;
      }
    where
      own_is : (x : ℕ) → eqb x x ≡ true
      own_is x = eq-eqb x x refl

      not_reached : (n : ℕ) {v : View} → (edit.to ≡ None) ⊎ (v ≡ None) → v ≡ None
      not_reached n (inl e) = absurd (let bad : Some access ≡ None = sym some ∙ e in cc)
      not_reached n (inr e) = e
