-- What the rules of a manifest say of its rows.
use Rattle.std.proofs.Common.{◌≡◌, ℕ, ◌+◌, ◌≤◌, ◌<◌, Bool, true, false, ◌||◌, not, cond, eqb, leb, List, [], ◌∷◌, length, get_or, slice_index, Some, None, find, refl, sym, ap, ◌∙◌, arith, zero, suc, take, eq-eqb}
use Rattle.std.specs.List.{list_all, list_any}
use Rattle.std.specs.Option.{option_map, option_and_then}
use Rattle.std.proofs.lemmas.List.{length-map}
use Rattle.std.proofs.lemmas.Bool.{leb-true, eqb-true}
use Rattle.std.proofs.lemmas.Bool.Decides.{nat_tests}
use Rattle.std.proofs.lemmas.List.Sums.{passes_at_first}
use Rattle.base.specs.Pages.{in_run}
use Rattle.base.specs.Manifest.{PartitionRow, GrantRow, RegionRow, ManifestRows, ids_of, quotas_of, row_of, is_partition, granted_in, access_of_grant, grant}
use Rattle.base.specs.Need.{need}
use Rattle.manifest.specs.Valid.{granted_by, rise_from, begin_from, names_partitions, fits_quota, is_partition_row, is_region_row, is_valid}
use Rattle.base.proofs.Booleans.{both}

-- the rules that the tables rest on
pub record Facts (m : ManifestRows) : Type 0 where
  pub rise : rise_from 0 m.partitions ≡ true
  pub names : list_all (names_partitions m.partitions) m.regions ≡ true
  pub begin : begin_from 0 m.regions ≡ true
  pub rows : list_all is_partition_row m.partitions ≡ true
  pub regions : list_all is_region_row m.regions ≡ true
  pub fits : list_all (fits_quota m.regions) m.partitions ≡ true

pub facts : (m : ManifestRows) → is_valid m ≡ true → Facts m
facts m e =
    let fits = both _ _ e in
    let executes = both _ _ fits.0 in
    let once = both _ _ executes.0 in
    let owners = both _ _ once.0 in
    let pages = both _ _ owners.0 in
    let overlaps = both _ _ pages.1 in
    let known = both _ _ pages.0 in
    let named = both _ _ known.1 in
    let pool = both _ _ known.0 in
    let regions = both _ _ pool.0 in
    let rows = both _ _ regions.0 in
    record { rise = named.0; names = named.1; begin = overlaps.0; rows = rows.1; regions = regions.1; fits = fits.1 }

-- ---- rows

-- identifiers that rise from a number are not below it
least_id : (least : ℕ) (rows : List PartitionRow) (i : ℕ) → rise_from least rows ≡ true → i < length rows → least ≤ get_or (ids_of rows) i 0
least_id least [] i e lt = absurd (omega arith)
least_id least (row ∷ rows) zero e lt = leb-true _ _ (both _ _ e).0
least_id least (row ∷ rows) (suc i) e lt =
    let b = both (leb least row.id) (rise_from (row.id + 1) rows) e in
    omega (arith, leb-true _ _ b.0, least_id (row.id + 1) rows i b.1 (omega arith))

-- the identifier in a row has that row
pub row_of-id : (least : ℕ) (rows : List PartitionRow) (i : ℕ) → rise_from least rows ≡ true → i < length rows → row_of (ids_of rows) (get_or (ids_of rows) i 0) ≡ i
row_of-id least [] i e lt = absurd (omega arith)
row_of-id least (row ∷ rows) zero e lt = rw (eq-eqb row.id row.id refl) refl
row_of-id least (row ∷ rows) (suc i) e lt =
    let b = both (leb least row.id) (rise_from (row.id + 1) rows) e in
    let above : row.id + 1 ≤ get_or (ids_of rows) i 0 = least_id (row.id + 1) rows i b.1 (omega arith) in
    let other : eqb row.id (get_or (ids_of rows) i 0) ≡ false = grind (arith, nat_tests) in
    let rest = row_of-id (row.id + 1) rows i b.1 (omega arith) in
    rw other (omega (arith, rest))

-- the row of a partition has its identifier
pub id-row_of : (ids : List ℕ) (p : ℕ) → row_of ids p < length ids → get_or ids (row_of ids p) 0 ≡ p
id-row_of ids p below = eqb-true _ _ (passes_at_first (λ id. eqb id p) ids 0 below)

-- a partition without a row is none
pub not_partition : (rows : List PartitionRow) (p : ℕ) → length (ids_of rows) ≤ row_of (ids_of rows) p → list_any (λ row. eqb row.id p) rows ≡ false
not_partition [] p le = refl
not_partition (row ∷ rows) p le =
    elim (eqb row.id p) as (λ b. suc (length (ids_of rows)) ≤ cond (not b) (1 + row_of (ids_of rows) p) 0 → (b || list_any (λ r. eqb r.id p) rows) ≡ false) [
      | true ↦ λ h. absurd (omega arith)
      | false ↦ λ h. not_partition rows p (omega arith)
    ] le

-- ---- what is granted

none_granted : (known : ℕ → Bool) (gs : List GrantRow) (p : ℕ) → list_all (λ g. known g.partition) gs ≡ true → known p ≡ false → find (λ g. eqb g.partition p) gs ≡ None
none_granted known [] p all unknown = refl
none_granted known (g ∷ gs) p all unknown =
    let b = both (known g.partition) (list_all (λ h. known h.partition) gs) all in
    elim (eqb g.partition p) as (λ k. eqb g.partition p ≡ k → cond k (Some g) (find (λ h. eqb h.partition p) gs) ≡ None) [
      | true ↦ λ e. let same : g.partition ≡ p = eqb-true _ _ e in let bad : known p ≡ true = ap known (sym same) ∙ b.0 in absurd (cc)
      | false ↦ λ e. none_granted known gs p b.1 unknown
    ] refl

stranger_in : (m : ManifestRows) (rs : List RegionRow) (p n : ℕ) → list_all (names_partitions m.partitions) rs ≡ true → is_partition m p ≡ false → option_and_then (λ r. granted_in r p) (find (λ r. in_run r.pages n) rs) ≡ None
stranger_in m [] p n names unknown = refl
stranger_in m (r ∷ rs) p n names unknown =
    let b = both (names_partitions m.partitions r) (list_all (names_partitions m.partitions) rs) names in
    elim (in_run r.pages n) as (λ k. option_and_then (λ r. granted_in r p) (cond k (Some r) (find (λ s. in_run s.pages n) rs)) ≡ None) [
      | true ↦ ap (option_map (access_of_grant r.kind)) (none_granted (is_partition m) r.grants p (both (is_partition m r.owner) _ b.0).1 unknown)
      | false ↦ stranger_in m rs p n b.1 unknown
    ]

-- nothing is granted to a partition without a row
pub stranger : (m : ManifestRows) (p n : ℕ) → Facts m → length (ids_of m.partitions) ≤ row_of (ids_of m.partitions) p → grant m p n ≡ None
stranger m p n h le = stranger_in m m.regions p n h.names (not_partition m.partitions p le)

fits_in : (regions : List RegionRow) (rows : List PartitionRow) (i : ℕ) → list_all (fits_quota regions) rows ≡ true → i < length rows → need (granted_by regions (get_or (ids_of rows) i 0)) ≤ slice_index (quotas_of rows) i
fits_in regions [] i e lt = absurd (omega arith)
fits_in regions (row ∷ rows) zero e lt = leb-true _ _ (both (fits_quota regions row) _ e).0
fits_in regions (row ∷ rows) (suc i) e lt = fits_in regions rows i (both (fits_quota regions row) _ e).1 (omega arith)

-- the quota of a row is no less than the tables that its grants need
pub fits_at : (m : ManifestRows) (i : ℕ) → Facts m → i < length m.partitions → need (grant m (get_or (ids_of m.partitions) i 0)) ≤ slice_index (quotas_of m.partitions) i
fits_at m i h lt = fits_in m.regions m.partitions i h.fits lt

-- the quota of a partition with a row is no less than the tables that its grants need
pub fits_of : (m : ManifestRows) (p : ℕ) → Facts m → row_of (ids_of m.partitions) p < length (ids_of m.partitions) → need (grant m p) ≤ slice_index (quotas_of m.partitions) (row_of (ids_of m.partitions) p)
fits_of m p h below =
    let ids = ids_of m.partitions in
    let id : get_or (ids_of m.partitions) (row_of (ids_of m.partitions) p) 0 ≡ p = id-row_of (ids_of m.partitions) p below in
    let long : length (ids_of m.partitions) ≡ length m.partitions = length-map m.partitions (λ (row : PartitionRow). row.id) in
    rw id at (fits_at m (row_of (ids_of m.partitions) p) h (omega arith))

-- ---- regions

begins_after : (least : ℕ) (rs : List RegionRow) (i : ℕ) (r : RegionRow) → begin_from least rs ≡ true → i < length rs → r ≡ get_or rs i r → least ≤ r.pages.first
begins_after least [] i r e lt is = absurd (omega arith)
begins_after least (x ∷ rs) zero r e lt is = let b = both (leb least x.pages.first) (begin_from (x.pages.first + x.pages.count) rs) e in rw is (leb-true _ _ b.0)
begins_after least (x ∷ rs) (suc i) r e lt is =
    let b = both (leb least x.pages.first) (begin_from (x.pages.first + x.pages.count) rs) e in
    omega (arith, leb-true _ _ b.0, begins_after (x.pages.first + x.pages.count) rs i r b.1 (omega arith) is)

-- no region before this one has its pages
pub none_before : (least : ℕ) (rs : List RegionRow) (i : ℕ) (r : RegionRow) (n : ℕ) → begin_from least rs ≡ true → i < length rs → r ≡ get_or rs i r → in_run r.pages n ≡ true → find (λ s. in_run s.pages n) (take i rs) ≡ None
none_before least [] i r n e lt is inside = absurd (omega arith)
none_before least (x ∷ rs) zero r n e lt is inside = refl
none_before least (x ∷ rs) (suc i) r n e lt is inside =
    let b = both (leb least x.pages.first) (begin_from (x.pages.first + x.pages.count) rs) e in
    let after : x.pages.first + x.pages.count ≤ r.pages.first = begins_after (x.pages.first + x.pages.count) rs i r b.1 (omega arith) is in
    let apart : in_run x.pages n ≡ false = grind (arith, nat_tests) in
    rw apart (none_before (x.pages.first + x.pages.count) rs i r n b.1 (omega arith) is inside)
