-- What is shown of one partition after another.
use Rattle.std.proofs.Common.{◌≡◌, ℕ, zero, suc, ◌+◌, ◌<◌, ◌≤◌, true, false, ◌||◌, eqb, List, [], ◌∷◌, length, get_or, refl, sym, ap, subst, ◌∙◌, arith, inl, inr, eq-eqb}
use Rattle.std.specs.List.{list_any}
use Rattle.std.proofs.lemmas.Bool.{cases_lt}
use Rattle.base.specs.Manifest.{PartitionRow, ManifestRows, is_partition, ids_of, row_of}
use Rattle.manifest.proofs.Facts.{not_partition, id-row_of}

-- a partition in a row is one of the manifest's
pub known-at : (rows : List PartitionRow) (i : ℕ) (row : PartitionRow) → i < length rows → row ≡ get_or rows i row → list_any (λ r. eqb r.id row.id) rows ≡ true
known-at [] i row lt is = absurd (omega arith)
known-at (r ∷ rows) zero row lt is =
    let here : eqb r.id row.id ≡ true = eq-eqb r.id row.id (ap (λ (x : PartitionRow). x.id) (sym is)) in
    rw here refl
known-at (r ∷ rows) (suc i) row lt is =
    elim (eqb r.id row.id) as (λ b. (b || list_any (λ x. eqb x.id row.id) rows) ≡ true) [ true ↦ refl | false ↦ known-at rows i row (omega arith) is ]

id-of : (rows : List PartitionRow) (i : ℕ) (row : PartitionRow) → i < length rows → row ≡ get_or rows i row → get_or (ids_of rows) i 0 ≡ row.id
id-of [] i row lt is = absurd (omega arith)
id-of (r ∷ rows) zero row lt is = ap (λ (x : PartitionRow). x.id) (sym is)
id-of (r ∷ rows) (suc i) row lt is = id-of rows i row (omega arith) is

-- what holds of the partitions before a row
pub record HoldsBelow (m : ManifestRows) (P : ℕ → Type 0) (i : ℕ) : Type 0 where
  pub holds : (k : ℕ) → k < i → P (get_or (ids_of m.partitions) k 0)

pub holds-none : (m : ManifestRows) (P : ℕ → Type 0) → HoldsBelow m P 0
holds-none m P = record { holds = λ k lt. absurd (omega (arith, lt)) }

pub holds-more : (m : ManifestRows) (P : ℕ → Type 0) (i : ℕ) (row : PartitionRow) → i < length m.partitions → row ≡ get_or m.partitions i row → HoldsBelow m P i → P row.id → HoldsBelow m P (i + 1)
holds-more m P i row lt is so here = record {
  holds = λ k small. elim (cases_lt k i) [
    | inl before ↦ so.holds k before
    | inr at ↦
        let same : k ≡ i = omega (arith, small, at) in
        subst P (sym (ap (λ j. get_or (ids_of m.partitions) j 0) same ∙ id-of m.partitions i row lt is)) here
  ];
}

length-ids : (rows : List PartitionRow) → length (ids_of rows) ≡ length rows
length-ids [] = refl
length-ids (r ∷ rows) = ap suc (length-ids rows)

pub holds-all : (m : ManifestRows) (P : ℕ → Type 0) (i : ℕ) → length m.partitions ≤ i → HoldsBelow m P i → (p : ℕ) → is_partition m p ≡ true → P p
holds-all m P i end so p known = elim (cases_lt (row_of (ids_of m.partitions) p) (length (ids_of m.partitions))) [
  | inl lt ↦
      let count = length-ids m.partitions in
      subst P (id-row_of (ids_of m.partitions) p lt) (so.holds (row_of (ids_of m.partitions) p) (omega (arith, lt, end, count)))
  | inr le ↦ let none = not_partition m.partitions p le in absurd (cc)
]
