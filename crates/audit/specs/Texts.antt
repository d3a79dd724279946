-- The texts: each is a function of the views, of the owners or of the manifest alone.
use Rattle.std.specs.Prelude.{ℕ, ◌==◌, List, ◌++◌, Some, None, length, codes, if◌then◌else◌}
use Rattle.std.specs.List.{flat_map}
use Rattle.std.specs.Fmt.{decimal}
use Rattle.base.specs.Access.{Access, View, is_rw, is_normal}
use Rattle.base.specs.Manifest.{PartitionRow, ManifestRows, grant}
use Rattle.base.specs.Need.{need}
use Rattle.words.specs.Words.{leaf_word_of}
use Rattle.stage2.specs.Listing.{Listed, entries}
use Rattle.base.specs.Transactions.{Donation}
use Rattle.base.specs.Runs.{ValuedRun}
use Rattle.digits.specs.Digits.{hex, address_text}
use Rattle.audit.specs.Runs.{Ownership, OwnedRun, reached_runs, owned_runs, line_of}

-- ---- words

-- data and instruction access in three characters
abbrev pub access_text : Access → List ℕ
access_text a =
    if is_rw a.rights then (if a.exec then codes "rwx" else codes "rw-")
    else (if a.exec then codes "r-x" else codes "r--")

-- the kind of memory in a word
abbrev pub kind_text : Access → List ℕ
kind_text a = if is_normal a.kind then codes "normal" else codes "device"

-- what ends the line of pages with this access
abbrev pub access_end : Access → List ℕ
access_end a = codes " " ++ access_text a ++ codes " " ++ kind_text a ++ codes "\n"

-- ---- what partitions need

-- the line of a partition whose grants need so many table pages
abbrev pub check_line : PartitionRow → ℕ → List ℕ
check_line row count =
    hex 4 row.id ++ codes " need " ++ decimal count ++ codes " quota " ++ decimal row.quota
    ++ codes "\n"

-- a line for each partition: the table pages that its grants need, and those that it may have
abbrev pub check_text : ManifestRows → List ℕ
check_text m = flat_map (λ row. check_line row (need (grant m row.id))) m.partitions

-- ---- what a partition reaches

abbrev pub maps_header : ℕ → ℕ → List ℕ
maps_header p count = codes "maps " ++ hex 4 p ++ codes " " ++ decimal count ++ codes "\n"

-- the line of pages that are reached alike
abbrev pub maps_line : ValuedRun Access → List ℕ
maps_line r = line_of access_end r

-- the maximal runs of pages that a partition with these views reaches alike
unfoldable pub maps_text : ℕ → (ℕ → View) → List ℕ
maps_text p view =
    maps_header p (length (reached_runs view)) ++ flat_map maps_line (reached_runs view)

-- ---- owners

abbrev pub owners_header : ℕ → List ℕ
owners_header count = codes "owners " ++ decimal count ++ codes "\n"

-- what ends the line of pages with this owner and home
abbrev pub ownership_end : Ownership → List ℕ
ownership_end o = codes " " ++ hex 4 o.owner ++ access_end o.home

-- the line of pages with one owner and one home
abbrev pub owners_line : OwnedRun → List ℕ
owners_line r = line_of ownership_end r

-- the maximal runs of pages with one owner and one home
unfoldable pub owners_text : ManifestRows → List Donation → List ℕ
owners_text m ds =
    owners_header (length (owned_runs m ds)) ++ flat_map owners_line (owned_runs m ds)

-- ---- the tables of a partition

abbrev pub tables_header : ℕ → ℕ → List ℕ
tables_header p count = codes "tables " ++ hex 4 p ++ codes " " ++ decimal count ++ codes "\n"

-- what an entry is: a table, or the word of a block or a page
abbrev pub content_text : ℕ → ℕ → View → List ℕ
content_text level first None = codes "table"
content_text level first (Some a) = hex 16 (leaf_word_of (level == 2) first a)

-- the line of an entry
abbrev pub entry_line : Listed → List ℕ
entry_line e =
    codes "L" ++ decimal e.level ++ codes " " ++ address_text e.first ++ codes " "
    ++ content_text e.level e.first e.leaf ++ codes "\n"

-- how many table pages a partition with these views needs, its root apart, and the entries of its tables
unfoldable pub tables_text : ℕ → (ℕ → View) → List ℕ
tables_text p view = tables_header p (need view) ++ flat_map entry_line (entries view)
