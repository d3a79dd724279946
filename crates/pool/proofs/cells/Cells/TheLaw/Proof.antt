-- A `&` to the places reaches each item.
use Rattle.pool.proofs.WalkNames.{[], ◌++◌, Incl-trans, meet_⊑_left, RattleType, RawPtr, Laws, copy_shared, field_copy, of_Lends}
use Rattle.core.specs.contracts.marker.PhantomData as marker
use Rattle.pool.specs.contracts.cells.Cells as C
use Rattle.pool.proofs.cells.Cells.TheLaw.Statement.{statement}
use Rattle.pool.proofs.CellSharing.{cells_lent_laws, Lends-cells}

pub shares : (R : RattleType) (L : Laws R) → statement R L
shares R L = of_Lends (C.struct R) (C.the_codes R.Denot R.coded (marker.the_row RawPtr).coded) (C.the_heap R) (C.the_lent R)
    (λ d p. cells_lent_laws R L.shr_laws d.at d.slots) (copy_shared (marker.the_field RawPtr) (field_copy (marker.the_type RawPtr) tt), tt)
    (λ M 𝓤 𝓛 d p. Lends-cells 𝓛 (C.the_row R).lives R L (Incl-trans (meet_⊑_left (R.lives ++ []) _) (meet_⊑_left R.lives [])) d.at d.slots)
