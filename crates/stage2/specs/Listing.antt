-- The entries of a partition's tables, as its views need them (Arm ARM, VMSAv8-64 stage 2, 4 KB granule, from level 1).
use Rattle.std.specs.Prelude.{ℕ, zero, suc, ◌+◌, ◌*◌, List, [], ◌∷◌, ◌++◌, Some, None, if◌then◌else◌}
use Rattle.base.specs.Access.{View}
use Rattle.base.specs.Need.{is_mixed, is_reached}

-- a valid entry: its level, the page where it begins, and the access of a block or a page, or nothing for a table
pub record Listed : Type 0 where
  pub level : ℕ
  pub first : ℕ
  pub leaf : View

-- what is given for each of the first numbers, one after another
unfoldable pub each_below : {A : Type 0} → (ℕ → List A) → ℕ → List A
each_below f zero = []
each_below f (suc n) = each_below f n ++ f n

abbrev pub table_entry : ℕ → ℕ → Listed
table_entry level first = record { level = level; first = first; leaf = None }

-- the block or page that begins here and is reached so; none where it is not reached
abbrev pub leaf_entries : ℕ → ℕ → View → List Listed
leaf_entries level first None = []
leaf_entries level first (Some a) = record { level = level; first = first; leaf = Some a } ∷ []

-- of the level 3 table of a chunk: a page for each page that is reached
unfoldable pub page_entries : (ℕ → View) → ℕ → List Listed
page_entries view c = each_below (λ i. leaf_entries 3 (512 * c + i) (view (512 * c + i))) 512

-- of a chunk: where its pages are not all alike a table and that table's entries, else a block, if they are reached
unfoldable pub chunk_entries : (ℕ → View) → ℕ → List Listed
chunk_entries view c =
    if is_mixed view c then table_entry 2 (512 * c) ∷ page_entries view c
    else leaf_entries 2 (512 * c) (view (512 * c))

-- of a gigabyte: where one of its pages is reached a table and that table's entries
unfoldable pub gigabyte_entries : (ℕ → View) → ℕ → List Listed
gigabyte_entries view g =
    if is_reached view g
    then table_entry 1 (262144 * g) ∷ each_below (λ i. chunk_entries view (512 * g + i)) 512
    else []

-- the entries of a partition with these views, in address order, those of a table right after its own
unfoldable pub entries : (ℕ → View) → List Listed
entries view = each_below (gigabyte_entries view) 512
