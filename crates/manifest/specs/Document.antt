-- The manifest that a TOML document holds, and the first fault of one that holds none.
use Rattle.std.specs.Prelude.{◌≡◌, ℕ, ℤ, pos, negsuc, codes, ◌+◌, ◌-◌, ◌/◌, ◌%◌, ◌^◌, Bool, true, false, ◌&&◌, ◌==◌, nat_lt, nat_eq, List, [], ◌∷◌, Option, Some, None, is_some, if◌then◌else◌, ◌⊎◌, Result, MatchResult, Vec}
use Rattle.std.specs.declared.alloc.Global.{Global}
use Rattle.std.specs.Option.{option_map, option_map_or, option_and_then}
use Rattle.std.specs.Str.{IsUtf8}
use Rattle.std.specs.Cmp.Lexicographic.{pointwise}
use Rattle.base.specs.Pages.{PageRun}
use Rattle.std.specs.List.Sorted.{IsPermutation, IsNonDecreasingBy}
use Rattle.base.specs.declared.access.Rights.{Rights}
use Rattle.base.specs.declared.access.Rights.TheVariants.{Ro, Rw}
use Rattle.base.specs.declared.access.MemoryKind.{MemoryKind}
use Rattle.base.specs.declared.access.MemoryKind.TheVariants.{Normal, Device}
use Rattle.base.specs.Manifest.{PartitionRow, GrantRow, RegionRow, ManifestRows}
use Rattle.toml.specs.Data.{Data, table, Items, no_items, item, Members, no_members, member, get, as_integer, as_bool, as_str, as_array, as_table}
use Rattle.toml.specs.Parse.{parse_document}
use Rattle.manifest.specs.Faults.{fault_of}
use Rattle.manifest.specs.Valid.{region}
use Rattle.manifest.specs.declared.fault.ManifestFault.{ManifestFault}
use Rattle.manifest.specs.Numbers.{number_of}

-- ---- keys

abbrev pub members_count : Members → ℕ
members_count no_members = 0
members_count (member key value ms) = members_count ms + 1

-- how many keys a table has
abbrev pub keys_count : Data → ℕ
keys_count (table ms) = members_count ms
keys_count _ = 0

abbrev pub has_key : List ℕ → Data → Bool
has_key key d = is_some (get key d)

-- the keys of a table differ, so each named key and their number say which keys there are
abbrev pub has_partition_keys : Data → Bool
has_partition_keys d = has_key (codes "id") d && has_key (codes "quota") d && (keys_count d == 2)

abbrev pub has_grant_keys : Data → Bool
has_grant_keys d =
    has_key (codes "id") d && has_key (codes "data") d && has_key (codes "exec") d
    && (keys_count d == 3)

abbrev pub has_region_keys : Data → Bool
has_region_keys d =
    has_key (codes "base") d && has_key (codes "pages") d && has_key (codes "kind") d
    && has_key (codes "owner") d && has_key (codes "grants") d && (keys_count d == 5)

abbrev pub has_document_keys : Data → Bool
has_document_keys d =
    has_key (codes "pool") d && has_key (codes "partition") d && has_key (codes "region") d
    && (keys_count d == 3)

abbrev pub is_table : Data → Bool
is_table d = is_some (as_table d)

-- the test passes at each table among the items
abbrev pub tables_pass : (Data → Bool) → Items → Bool
tables_pass test no_items = true
tables_pass test (item d ds) = (if is_table d then test d else true) && tables_pass test ds

-- the array at a key
abbrev pub array_at : List ℕ → Data → Option Items
array_at key d = option_and_then as_array (get key d)

-- the test passes at each table in the array at a key, where there is an array
abbrev pub tables_pass_at : List ℕ → (Data → Bool) → Data → Bool
tables_pass_at key test d = option_map_or (tables_pass test) (array_at key d) true

abbrev pub has_all_region_keys : Data → Bool
has_all_region_keys d = has_region_keys d && tables_pass_at (codes "grants") has_grant_keys d

abbrev pub partitions_have_keys : Data → Bool
partitions_have_keys d = tables_pass_at (codes "partition") has_partition_keys d

abbrev pub regions_have_keys : Data → Bool
regions_have_keys d = tables_pass_at (codes "region") has_all_region_keys d

-- fault 2: the document, its partitions, its regions and their grants have the keys that stand there, and no others
abbrev pub keys_are_right : Data → Bool
keys_are_right d = has_document_keys d && partitions_have_keys d && regions_have_keys d

-- ---- values

-- a number that is no identifier of 16 bits is read as 0, which no partition may have
abbrev pub identifier_of : ℤ → ℕ
identifier_of (pos n) = if nat_lt n (2 ^ 16) then n else 0
identifier_of (negsuc n) = 0

-- a number below 0 or past 32 bits is read as the largest of 32 bits, which is past each limit
abbrev pub count_of : ℤ → ℕ
count_of (pos n) = if nat_lt n (2 ^ 32) then n else 2 ^ 32 - 1
count_of (negsuc n) = 2 ^ 32 - 1

-- an address that begins no page of 4 KB below 2^39 is read as the page after the last
abbrev pub page_of : ℤ → ℕ
page_of (pos n) = if (n % 4096 == 0) && nat_lt n (2 ^ 39) then n / 4096 else 2 ^ 27
page_of (negsuc n) = 2 ^ 27

abbrev pub integer_at : List ℕ → Data → Option ℤ
integer_at key d = option_and_then as_integer (get key d)

abbrev pub bool_at : List ℕ → Data → Option Bool
bool_at key d = option_and_then as_bool (get key d)

abbrev pub text_at : List ℕ → Data → Option (List ℕ)
text_at key d = option_and_then as_str (get key d)

abbrev pub same_text : List ℕ → List ℕ → Bool
same_text a b = pointwise nat_eq a b

abbrev pub kind_of : List ℕ → Option MemoryKind
kind_of text =
    if same_text text (codes "normal") then Some Normal
    else (if same_text text (codes "device") then Some Device else None)

abbrev pub rights_of : List ℕ → Option Rights
rights_of text =
    if same_text text (codes "ro") then Some Ro
    else (if same_text text (codes "rw") then Some Rw else None)

abbrev pub partition_of : Data → Option PartitionRow
partition_of d =
    option_and_then (λ id.
    option_map (λ quota. record { id = identifier_of id; quota = count_of quota })
    (integer_at (codes "quota") d))
    (integer_at (codes "id") d)

abbrev pub grant_of : Data → Option GrantRow
grant_of d =
    option_and_then (λ id.
    option_and_then (λ rights.
    option_map (λ exec. record { partition = identifier_of id; rights = rights; exec = exec })
    (bool_at (codes "exec") d))
    (option_and_then rights_of (text_at (codes "data") d)))
    (integer_at (codes "id") d)

-- the rows of some items, where each item is one
abbrev pub rows_in : {A : Type 0} → (Data → Option A) → Items → Option (List A)
rows_in row_of no_items = Some []
rows_in row_of (item d ds) =
    option_and_then (λ row. option_map (λ rows. row ∷ rows) (rows_in row_of ds)) (row_of d)

-- the rows of the array at a key
abbrev pub rows_at : {A : Type 0} → List ℕ → (Data → Option A) → Data → Option (List A)
rows_at key row_of d = option_and_then (rows_in row_of) (array_at key d)

abbrev pub pages_of : Data → Option PageRun
pages_of d =
    option_and_then (λ base.
    option_map (λ pages. record { first = page_of base; count = count_of pages })
    (integer_at (codes "pages") d))
    (integer_at (codes "base") d)

-- a region with these grants
abbrev pub region_with : List GrantRow → Data → Option RegionRow
region_with grants d =
    option_and_then (λ pages.
    option_and_then (λ kind.
    option_map (λ owner. region pages kind (identifier_of owner) grants)
    (integer_at (codes "owner") d))
    (option_and_then kind_of (text_at (codes "kind") d)))
    (pages_of d)

abbrev pub grants_of : Data → Option (List GrantRow)
grants_of d = rows_at (codes "grants") grant_of d

abbrev pub region_of : Data → Option RegionRow
region_of d = option_and_then (λ grants. region_with grants d) (grants_of d)

abbrev pub pool_of : Data → Option ℕ
pool_of d = option_map page_of (integer_at (codes "pool") d)

abbrev pub partitions_of : Data → Option (List PartitionRow)
partitions_of d = rows_at (codes "partition") partition_of d

abbrev pub regions_of : Data → Option (List RegionRow)
regions_of d = rows_at (codes "region") region_of d

-- the rows of a document, in its order; none where a value is of another type or another text (fault 3)
abbrev pub rows_of : Data → Option ManifestRows
rows_of d =
    option_and_then (λ pool.
    option_and_then (λ partitions.
    option_map (λ regions. record { pool = pool; partitions = partitions; regions = regions })
    (regions_of d))
    (partitions_of d))
    (pool_of d)

-- a value is of another type or another text (3), or want of memory (11)
abbrev pub IsWrongValue : {A : Type 0} → Option A → ManifestFault → Type 0
IsWrongValue rows fault = (number_of fault ≡ 11) ⊎ ((number_of fault ≡ 3) × (rows ≡ None))

-- the value that is wanted, or a fault
abbrev pub Reads : {A : Type 0} → Option A → Result A ManifestFault → Type 0
Reads wanted result = MatchResult result (λ x. wanted ≡ Some x) (IsWrongValue wanted)

-- the rows that are wanted, or a fault
abbrev pub ReadsRows : {A : Type 0} → Option (List A) → Result (Vec A Global) ManifestFault → Type 0
ReadsRows wanted result =
    MatchResult result (λ rows. wanted ≡ Some rows.items) (IsWrongValue wanted)

-- the same rows, partitions in ascending order of identifier and regions in ascending order of address
pub record IsInOrder (rows sorted : ManifestRows) : Type 0 where
  pub pool : sorted.pool ≡ rows.pool
  pub partitions : IsPermutation rows.partitions sorted.partitions
  pub identifiers : IsNonDecreasingBy (λ row. row.id) sorted.partitions
  pub regions : IsPermutation rows.regions sorted.regions
  pub addresses : IsNonDecreasingBy (λ r. r.pages.first) sorted.regions

-- the bytes are a document with the right keys, which holds these rows
pub record Holds (bytes : List ℕ) (rows : ManifestRows) : Type 0 where
  pub members : Members
  pub text : IsUtf8 bytes
  pub document : parse_document bytes ≡ Some members
  pub keys : keys_are_right (table members) ≡ true
  pub values : rows_of (table members) ≡ Some rows

-- the bytes are the document of this data
pub record IsDocument (bytes : List ℕ) (d : Data) : Type 0 where
  pub members : Members
  pub text : IsUtf8 bytes
  pub document : parse_document bytes ≡ Some members
  pub is : d ≡ table members

-- the bytes hold the manifest's rows, which break no rule
pub record IsManifestOf (bytes : List ℕ) (m : ManifestRows) : Type 0 where
  pub rows : ManifestRows
  pub holds : Holds bytes rows
  pub order : IsInOrder rows m
  pub keeps : fault_of m ≡ None

-- fault 1: no text, or no document
pub record IsNoDocument (bytes : List ℕ) : Type 0 where
  pub refused : IsUtf8 bytes → parse_document bytes ≡ None

-- the fault of bytes that are no document, or want of memory
abbrev pub IsUnread : List ℕ → ManifestFault → Type 0
IsUnread bytes fault = (number_of fault ≡ 11) ⊎ ((number_of fault ≡ 1) × IsNoDocument bytes)

-- fault 2: an unknown or a missing key
pub record BreaksKeys (bytes : List ℕ) : Type 0 where
  pub members : Members
  pub document : parse_document bytes ≡ Some members
  pub keys : keys_are_right (table members) ≡ false

-- fault 3: a value of another type or another text
pub record BreaksValues (bytes : List ℕ) : Type 0 where
  pub members : Members
  pub document : parse_document bytes ≡ Some members
  pub keys : keys_are_right (table members) ≡ true
  pub values : rows_of (table members) ≡ None

-- faults 4 to 10: the first rule that the rows break
pub record BreaksRule (bytes : List ℕ) (fault : ℕ) : Type 0 where
  pub rows : ManifestRows
  pub sorted : ManifestRows
  pub holds : Holds bytes rows
  pub order : IsInOrder rows sorted
  pub broken : fault_of sorted ≡ Some fault

-- the fault is the first that applies, or want of memory (11)
abbrev pub IsFirstFault : List ℕ → ManifestFault → Type 0
IsFirstFault bytes fault =
    (number_of fault ≡ 11)
    ⊎ (((number_of fault ≡ 1) × IsNoDocument bytes)
    ⊎ (((number_of fault ≡ 2) × BreaksKeys bytes)
    ⊎ (((number_of fault ≡ 3) × BreaksValues bytes) ⊎ BreaksRule bytes (number_of fault))))
