-- The row of a partition among the rows of a manifest.
use Rattle.std.proofs.Common.{◌≡◌, ℕ, eqb, List, [], ◌∷◌, position, refl, arith}
use Rattle.std.specs.List.{position_or_len}
use Rattle.pool.proofs.Names.{common_steps, nat_tests, PartitionRow, ids_of, length-map}

-- it is the row among their identifiers
pub position_ids : (rows : List PartitionRow) (p : ℕ) → position (λ id. eqb id p) (ids_of rows) ≡ position (λ row. eqb row.id p) rows
position_ids rows p = grind (arith, common_steps, nat_tests, length-map rows (λ (row : PartitionRow). row.id), same_place rows p)
  where
    same_place : (rows : List PartitionRow) (p : ℕ) → position_or_len (λ id. eqb id p) (ids_of rows) ≡ position_or_len (λ (row : PartitionRow). eqb row.id p) rows
    same_place [] p = refl
    same_place (row ∷ rows) p = grind (arith, common_steps, nat_tests, same_place rows p)
