-- The manifest as data: which partitions there are, and what its regions grant.
use Rattle.std.specs.Prelude.{ℕ, ◌+◌, Bool, ◌&&◌, ◌==◌, List, length, map, sum, Option}
use Rattle.std.specs.List.{list_any, find, position_or_len}
use Rattle.std.specs.Option.{option_map, option_and_then}
use Rattle.base.specs.declared.access.Rights.{Rights}
use Rattle.base.specs.declared.access.MemoryKind.{MemoryKind}
use Rattle.base.specs.Pages.{PageRun, in_run}
use Rattle.base.specs.Access.{Access, View, is_normal}

-- a partition, and how many table pages it may have, its root apart
pub record PartitionRow : Type 0 where
  pub id : ℕ
  pub quota : ℕ

-- what a region grants to a partition
pub record GrantRow : Type 0 where
  pub partition : ℕ
  pub rights : Rights
  pub exec : Bool

-- pages of one kind and one owner that are granted alike
pub record RegionRow : Type 0 where
  pub pages : PageRun
  pub kind : MemoryKind
  pub owner : ℕ
  pub grants : List GrantRow

-- the first page of the table pool, the partitions and the regions
pub record ManifestRows : Type 0 where
  pub pool : ℕ
  pub partitions : List PartitionRow
  pub regions : List RegionRow

abbrev pub ids_of : List PartitionRow → List ℕ
ids_of partitions = map (λ row. row.id) partitions

abbrev pub is_partition : ManifestRows → ℕ → Bool
is_partition m p = list_any (λ row. row.id == p) m.partitions

abbrev pub quotas_of : List PartitionRow → List ℕ
quotas_of partitions = map (λ row. row.quota) partitions

-- the place of a partition among the others, from 0; for one that has no row, their number
abbrev pub row_of : List ℕ → ℕ → ℕ
row_of ids p = position_or_len (λ id. id == p) ids

-- the region of a page
abbrev pub region_at : ManifestRows → ℕ → Option RegionRow
region_at m n = find (λ r. in_run r.pages n) m.regions

-- the access that a grant gives to memory of this kind
abbrev pub access_of_grant : MemoryKind → GrantRow → Access
access_of_grant kind g = record { rights = g.rights; exec = g.exec; kind = kind }

-- what a region grants to a partition
abbrev pub granted_in : RegionRow → ℕ → View
granted_in r p = option_map (access_of_grant r.kind) (find (λ g. g.partition == p) r.grants)

-- what the manifest grants to a partition at a page
abbrev pub grant : ManifestRows → ℕ → ℕ → View
grant m p n = option_and_then (λ r. granted_in r p) (region_at m n)

-- the region may be shared, lent and given away: normal memory with exactly one grant
abbrev pub is_sharable : RegionRow → Bool
is_sharable r = is_normal r.kind && (length r.grants == 1)

-- the number of table pages: a root for each partition, and their quotas
abbrev pub page_count : List ℕ → ℕ
page_count quotas = length quotas + sum quotas
