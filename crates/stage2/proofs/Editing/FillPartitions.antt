-- The tables of all partitions, filled one after another.
use Rattle.std.proofs.Common.{◌≡◌, ◌≢◌, ℕ, ◌+◌, ◌^◌, ◌<◌, ◌≤◌, true, false, ltb, length, get_or, refl, sym, ap, subst, ◌∙◌, arith, inl, inr}
use Rattle.stage2.proofs.Names.{nat_tests, View, PartitionRow, ManifestRows, ids_of, row_of, need, quota_of, KeepsOthers, IsFilled, AreFilled, layout_of, walk_in, AreCanonical, walked, common_steps, Unmapped, cases_lt, cases_eq}
use Rattle.std.proofs.lemmas.List.{length-map}
use Rattle.manifest.proofs.Facts.{Facts, row_of-id}
use Rattle.pool.proofs.Shares.{row_of-injective}
use Rattle.stage2.specs.Tables.{TablesView}
use Rattle.stage2.proofs.Counting.Quotas.{no_quota, none-needed}

count-ids : (m : ManifestRows) → length (ids_of m.partitions) ≡ length m.partitions
count-ids m = length-map m.partitions (λ (row : PartitionRow). row.id)

-- no partition but that of a row has it
apart : (m : ManifestRows) (p id i : ℕ) → i < length m.partitions → row_of (ids_of m.partitions) id ≡ i → p ≢ id → row_of (ids_of m.partitions) p ≢ i
apart m p id i lt mine other at = grind (arith, common_steps, nat_tests, count-ids, row_of-injective)

module _ (m : ManifestRows) (view : ℕ → ℕ → View) where
  -- nothing is mapped yet
  pub filled-none : (t : TablesView) → t.layout ≡ layout_of m → AreCanonical t → ((p n : ℕ) → walk_in t p n ≡ Unmapped) → AreFilled (layout_of m) view 0 t
  filled-none t placed canonical none = grind (arith, common_steps, nat_tests)

  -- the partition that is to be mapped next
  module _ (i id : ℕ) (item : PartitionRow) (f : Facts m) (lt : i < length m.partitions) (is : item ≡ get_or m.partitions i item) (same : id ≡ item.id) where
    here : row_of (ids_of m.partitions) id ≡ i
    here = ap (row_of (ids_of m.partitions)) same ∙ (ap (row_of (ids_of m.partitions)) (sym (grind (arith, common_steps, nat_tests))) ∙ row_of-id 0 m.partitions i f.rise lt)

    -- nothing of it is mapped yet
    pub not-filled : (t : TablesView) → AreFilled (layout_of m) view i t → (n : ℕ) → n < 2 ^ 27 → walk_in t id n ≡ Unmapped
    not-filled t so n small =
        let off : ltb (row_of (ids_of m.partitions) id) i ≡ false = grind (arith, nat_tests, here) in
        so.walks id n small ∙ rw off refl

    pub filled-more : (old new : TablesView) → AreFilled (layout_of m) view i old → new.layout ≡ layout_of m → AreCanonical new → KeepsOthers id old new → IsFilled (view id) id new → AreFilled (layout_of m) view (i + 1) new
    filled-more old new so placed canonical keeps filled = record {
      placed = placed;
      canonical = canonical;
      walks = λ p n small. elim (cases_eq p id) [
        | inl at ↦ grind (arith, common_steps, nat_tests, here)
        | inr other ↦ grind (arith, common_steps, nat_tests, apart m p id i lt here other, keeps.walks p n small other, so.walks p n small)
      ];
    }

  -- all are mapped: a partition that has no row reaches nothing
  pub filled-all : ((p : ℕ) → need (view p) ≤ quota_of m p) → (i : ℕ) (t : TablesView) → i ≡ length m.partitions → AreFilled (layout_of m) view i t → (p n : ℕ) → n < 2 ^ 27 → walk_in t p n ≡ walked n (view p n)
  filled-all fits i t end so p n small = so.walks p n small ∙ elim (cases_lt (row_of (ids_of m.partitions) p) i) [
    | inl lt ↦ let inside : ltb (row_of (ids_of m.partitions) p) i ≡ true = grind (arith, nat_tests) in rw inside refl
    | inr le ↦
        let outside : ltb (row_of (ids_of m.partitions) p) i ≡ false = grind (arith, nat_tests) in
        rw outside (ap (walked n) (sym (none-needed (view p) (subst (λ k. need (view p) ≤ k) (no_quota m.partitions p (omega (arith, le, end, count-ids m))) (fits p)) n small)))
  ]
