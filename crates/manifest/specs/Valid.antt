-- The rules of a manifest, in the order of its faults from limits (4) to quotas (10).
use Rattle.std.specs.Prelude.{ℕ, ◌+◌, ◌^◌, Bool, true, not, ◌&&◌, ◌||◌, ◌==◌, nat_le, List, [], ◌∷◌, length, Option}
use Rattle.std.specs.List.{list_all, list_any, find}
use Rattle.std.specs.Option.{option_map_or, option_and_then}
use Rattle.base.specs.Pages.{PageRun, in_run, are_apart}
use Rattle.base.specs.declared.access.MemoryKind.{MemoryKind}
use Rattle.base.specs.Access.{View, is_normal}
use Rattle.base.specs.Need.{need}
use Rattle.base.specs.Manifest.{PartitionRow, GrantRow, RegionRow, ManifestRows, quotas_of, page_count, granted_in}

-- ---- a region

-- 1 to 64 rows
abbrev pub is_few : {A : Type 0} → List A → Bool
is_few rows = nat_le 1 (length rows) && nat_le (length rows) 64

-- a region of these parts
abbrev pub region : PageRun → MemoryKind → ℕ → List GrantRow → RegionRow
region pages kind owner grants =
    record { pages = pages; kind = kind; owner = owner; grants = grants }

-- some pages, which end within input addresses of 39 bits
abbrev pub is_run : PageRun → Bool
is_run run = nat_le 1 run.count && nat_le (run.first + run.count) (2 ^ 27)

-- some pages, and 1 to 64 grants
abbrev pub is_region_row : RegionRow → Bool
is_region_row r = is_run r.pages && is_few r.grants

-- the owner is among the grants
abbrev pub grants_owner : RegionRow → Bool
grants_owner r = list_any (λ g. g.partition == r.owner) r.grants

-- no partition stands in two of the grants
abbrev pub are_distinct : List GrantRow → Bool
are_distinct [] = true
are_distinct (g ∷ gs) = list_all (λ h. not (h.partition == g.partition)) gs && are_distinct gs

-- only normal memory is executable
abbrev pub suits_kind : MemoryKind → GrantRow → Bool
suits_kind kind g = is_normal kind || not g.exec

abbrev pub executes_normal : RegionRow → Bool
executes_normal r = list_all (suits_kind r.kind) r.grants

-- the grant to a partition
abbrev pub grant_to : RegionRow → ℕ → Option GrantRow
grant_to r p = find (λ g. g.partition == p) r.grants

-- a region's own rules
abbrev pub is_region : RegionRow → Bool
is_region r = is_region_row r && grants_owner r && are_distinct r.grants && executes_normal r

-- ---- the manifest

-- what regions grant to a partition at a page
abbrev pub granted_by : List RegionRow → ℕ → ℕ → View
granted_by regions p n =
    option_and_then (λ r. granted_in r p) (find (λ r. in_run r.pages n) regions)

-- the row of an identifier
abbrev pub row_with : List PartitionRow → ℕ → Option PartitionRow
row_with rows id = find (λ row. row.id == id) rows

-- how many table pages a partition may have; none for one that has no row
abbrev pub quota_of : ManifestRows → ℕ → ℕ
quota_of m p = option_map_or (λ row. row.quota) (row_with m.partitions p) 0

abbrev pub is_partition_row : PartitionRow → Bool
is_partition_row row =
    nat_le 0x8001 row.id && nat_le row.id 0xfffe && nat_le 1 row.quota && nat_le row.quota 1024

-- the identifiers rise
abbrev pub rise_from : ℕ → List PartitionRow → Bool
rise_from least [] = true
rise_from least (row ∷ rows) = nat_le least row.id && rise_from (row.id + 1) rows

-- each region begins where the one before has ended, or later
abbrev pub begin_from : ℕ → List RegionRow → Bool
begin_from least [] = true
begin_from least (r ∷ rs) =
    nat_le least r.pages.first && begin_from (r.pages.first + r.pages.count) rs

-- one of the rows has the identifier
abbrev pub has_row : List PartitionRow → ℕ → Bool
has_row rows id = list_any (λ row. row.id == id) rows

-- the owner and the partitions of the grants have rows
abbrev pub names_partitions : List PartitionRow → RegionRow → Bool
names_partitions rows r = has_row rows r.owner && list_all (λ g. has_row rows g.partition) r.grants

abbrev pub pool_pages : ManifestRows → PageRun
pool_pages m = record { first = m.pool; count = page_count (quotas_of m.partitions) }

-- the quota is no less than the tables that the grants need
abbrev pub fits_quota : List RegionRow → PartitionRow → Bool
fits_quota regions row = nat_le (need (granted_by regions row.id)) row.quota

-- the pool ends within input addresses of 39 bits
abbrev pub pool_ends : ManifestRows → Bool
pool_ends m = nat_le (m.pool + page_count (quotas_of m.partitions)) (2 ^ 27)

-- fault 4: 1 to 64 partitions and regions, the limits of each, and the pool's end
abbrev pub is_within_limits : ManifestRows → Bool
is_within_limits m =
    is_few m.partitions
    && is_few m.regions
    && list_all is_partition_row m.partitions
    && list_all is_region_row m.regions
    && pool_ends m

-- owners and grants name partitions
abbrev pub regions_name_partitions : ManifestRows → Bool
regions_name_partitions m = list_all (names_partitions m.partitions) m.regions

-- fault 5: each identifier stands once, and owners and grants name partitions
abbrev pub names_partitions_once : ManifestRows → Bool
names_partitions_once m = rise_from 0 m.partitions && regions_name_partitions m

-- no region shares a page with the pool
abbrev pub pool_is_apart : ManifestRows → Bool
pool_is_apart m = list_all (λ r. are_apart (pool_pages m) r.pages) m.regions

-- fault 6: no two regions share a page, nor a region and the pool
abbrev pub shares_no_page : ManifestRows → Bool
shares_no_page m = begin_from 0 m.regions && pool_is_apart m

-- fault 7: each owner has a grant
abbrev pub grants_owners : ManifestRows → Bool
grants_owners m = list_all grants_owner m.regions

-- fault 8: no partition has two grants in one region
abbrev pub grants_once : ManifestRows → Bool
grants_once m = list_all (λ r. are_distinct r.grants) m.regions

-- fault 9: no device region is executable
abbrev pub executes_normal_only : ManifestRows → Bool
executes_normal_only m = list_all executes_normal m.regions

-- fault 10: each quota is at least the need
abbrev pub fits_quotas : ManifestRows → Bool
fits_quotas m = list_all (fits_quota m.regions) m.partitions

abbrev pub is_valid : ManifestRows → Bool
is_valid m =
    is_within_limits m
    && names_partitions_once m
    && shares_no_page m
    && grants_owners m
    && grants_once m
    && executes_normal_only m
    && fits_quotas m
