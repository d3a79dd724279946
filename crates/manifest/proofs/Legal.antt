-- A region keeps its own rules where the manifest's rules hold.
use Rattle.std.proofs.Common.{◌≡◌, true, ◌&&◌, List, [], ◌∷◌, refl}
use Rattle.std.specs.List.{list_all}
use Rattle.std.proofs.lemmas.Bool.{and_parts, and_from}
use Rattle.base.specs.Manifest.{RegionRow, ManifestRows}
use Rattle.manifest.specs.Valid.{is_region, is_region_row, grants_owner, are_distinct, executes_normal, is_within_limits}

pub regions_are_legal : (rs : List RegionRow) → list_all is_region_row rs ≡ true → list_all grants_owner rs ≡ true → list_all (λ r. are_distinct r.grants) rs ≡ true → list_all executes_normal rs ≡ true → list_all is_region rs ≡ true
regions_are_legal [] limits owners once executes = refl
regions_are_legal (r ∷ rs) limits owners once executes =
    let a = and_parts (is_region_row r) (list_all is_region_row rs) limits in
    let b = and_parts (grants_owner r) (list_all grants_owner rs) owners in
    let c = and_parts (are_distinct r.grants) (list_all (λ s. are_distinct s.grants) rs) once in
    let d = and_parts (executes_normal r) (list_all executes_normal rs) executes in
    and_from (is_region r) (list_all is_region rs)
    (and_from (is_region_row r && grants_owner r && are_distinct r.grants) (executes_normal r)
    (and_from (is_region_row r && grants_owner r) (are_distinct r.grants) (and_from (is_region_row r) (grants_owner r) a.0 b.0) c.0) d.0)
    (regions_are_legal rs a.1 b.1 c.1 d.1)

-- the limits hold of each region
pub region_limits : (m : ManifestRows) → is_within_limits m ≡ true → list_all is_region_row m.regions ≡ true
region_limits m e = (and_parts _ _ (and_parts _ _ e).0).1
