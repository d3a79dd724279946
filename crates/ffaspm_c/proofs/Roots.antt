-- The place of a partition among the others is that of its root in the pool.
use Rattle.std.proofs.Common.{◌≡◌, ℕ, ◌+◌, ◌<◌, ◌≤◌, ◌==◌, false, List, [], ◌∷◌, length, Some, None, refl, sym, ap, arith, inl, inr}
use Rattle.std.proofs.lemmas.Bool.{cases_Bool}
use Rattle.std.proofs.lemmas.Bool.Decides.{nat_tests}
use Rattle.std.proofs.lemmas.List.{length-map}
use Rattle.std.specs.List.{list_any, position}
use Rattle.base.specs.Manifest.{ManifestRows, PartitionRow, ids_of, is_partition, row_of}
use Rattle.ffaspm_c.specs.Tables.{IsRoot}

past_all : (rows : List PartitionRow) (p : ℕ) → length (ids_of rows) ≤ row_of (ids_of rows) p → list_any (λ row. row.id == p) rows ≡ false
past_all [] p past = refl
past_all (row ∷ rows) p past =
    elim (cases_Bool (row.id == p)) [
      | inl is ↦ absurd (omega (arith, rw is at past))
      | inr other ↦ rw other (past_all rows p (omega (arith, rw other at past)))
    ]

pub root_is : (m : ManifestRows) (p row : ℕ) → position (λ id. id == p) (ids_of m.partitions) ≡ Some row → IsRoot m p row
root_is m p row found =
    let at : (row_of (ids_of m.partitions) p ≡ row) × (row < length (ids_of m.partitions)) = grind (arith, nat_tests, found) in
    record { row = sym at.0; there = omega (arith, at.1, length-map m.partitions (λ (r : PartitionRow). r.id)) }

pub no_root : (m : ManifestRows) (p : ℕ) → position (λ id. id == p) (ids_of m.partitions) ≡ None → is_partition m p ≡ false
no_root m p none =
    past_all m.partitions p (grind (arith, nat_tests, none))
