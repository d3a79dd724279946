-- The change of the state of one partition.
use Rattle.std.proofs.Common.{◌≡◌, ℕ, suc, ◌<◌, List, ◌∷◌, ◌++◌, length, get_or, take, drop, eqb, true, refl, sym, ap, ◌∙◌, drop-cons, eq-eqb}
use Rattle.std.proofs.lemmas.List.{set_split}
use Rattle.std.proofs.Math.ListN.{set}
use Rattle.base.specs.State.{PartitionState, with_partition}

-- at the place of a row that is the partition's and the first that is
pub with_partition_at : (p : ℕ) (change : PartitionState → PartitionState) (rows all : List PartitionState) (i : ℕ) (row d : PartitionState) → i < length rows → row ≡ get_or rows i d → row.partition ≡ p
    → take i rows ++ with_partition p change (drop i rows) ≡ all → set rows i (change row) ≡ all
with_partition_at p change rows all i row d lt is here so_far =
    let test : eqb (get_or rows i d).partition p ≡ true = rw (← is) (eq-eqb row.partition p here) in
    let one : take i rows ++ with_partition p change (drop i rows) ≡ take i rows ++ (change (get_or rows i d) ∷ drop (suc i) rows) = rw (drop-cons rows i d lt, test) refl in
    ap (λ (s : PartitionState). set rows i (change s)) is ∙ set_split rows i (change (get_or rows i d)) lt ∙ sym one ∙ so_far
