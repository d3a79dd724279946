-- The valid words of a partition's tables, in address order, those of a table right behind its own.
use Rattle.std.specs.Prelude.{◌≡◌, ℕ, zero, suc, ◌+◌, ◌-◌, ◌*◌, ◌%◌, ◌^◌, ◌<◌, ◌≤◌, Bool, true, ◌==◌, not, List, [], ◌∷◌, ◌++◌, Option, Some, None, is_some, MatchOption, if◌then◌else◌}
use Rattle.std.specs.List.{flat_map, list_all}
use Rattle.std.specs.Option.{option_map_or}
use Rattle.base.specs.Access.{Access, View}
use Rattle.base.specs.Counts.{count_below}
use Rattle.base.specs.Pages.{PageRun}
use Rattle.words.specs.declared.word.Entry.{Entry}
use Rattle.words.specs.declared.word.Entry.TheVariants.{Invalid, Table, Leaf, Wrong}
use Rattle.words.specs.Words.{entry_of, leaf_word_of}
use Rattle.pool.specs.Pool.{Words, nonzero_in}
use Rattle.stage2.specs.Level.{number_of}
use Rattle.stage2.specs.Listing.{Listed}
use Rattle.stage2.specs.Slot.{Layout, slot_from}
use Rattle.stage2.specs.Walk.{next_page}
use Rattle.stage2.specs.declared.cursor.Cursor.{Cursor}
use Rattle.stage2.specs.declared.table_page.Level.{Level}
use Rattle.stage2.specs.declared.table_page.Level.TheVariants.{First, Second, Third}

-- ---- entries

-- a valid word: the level of its table, the first of the pages that it stands for, and the word
pub record TableEntry : Type 0 where
  pub level : Level
  pub first : ℕ
  pub word : ℕ

-- how many pages a word of a table stands for: a gigabyte, a chunk, a page
abbrev pub pages_at : Level → ℕ
pages_at First = 262144
pages_at Second = 512
pages_at Third = 1

-- the entry of a word; none where its bit 0 is 0
abbrev pub entry_at : Level → ℕ → ℕ → List TableEntry
entry_at level first word =
    if word % 2 == 0 then [] else record { level = level; first = first; word = word } ∷ []

-- the entries of so many words of a table from an index on; its first word stands for the pages from `first` on
unfoldable pub entries_from : Level → ℕ → (ℕ → ℕ) → ℕ → ℕ → List TableEntry
entries_from level first word index zero = []
entries_from level first word index (suc n) =
    entry_at level (first + pages_at level * index) (word index)
    ++ entries_from level first word (suc index) n

-- of all its words
abbrev pub table_entries : Level → ℕ → (ℕ → ℕ) → List TableEntry
table_entries level first word = entries_from level first word 0 512

-- what is reached by a block or a page
abbrev pub access_of : Entry → View
access_of Invalid = None
access_of (Table page) = None
access_of (Leaf page access) = Some access
access_of Wrong = None

-- what is reached by an entry
abbrev pub access_by : TableEntry → View
access_by e = access_of (entry_of (number_of e.level) e.word)

-- so many entries in a row: their pages follow one another, and so do the addresses in their words
unfoldable pub entry_row : Level → ℕ → ℕ → ℕ → List TableEntry
entry_row level first word zero = []
entry_row level first word (suc n) =
    record { level = level; first = first; word = word }
    ∷ entry_row level (first + pages_at level) (word + 4096 * pages_at level) n

-- pages in a row that are reached alike, and the word of the first
pub record AlikePages : Type 0 where
  pub pages : PageRun
  pub access : Access
  pub word : ℕ

-- nothing is reached by these entries
abbrev pub reach_nothing : List TableEntry → Bool
reach_nothing entries = list_all (λ e. not (is_some (access_by e))) entries

-- so many entries that are left stand in a row behind this one
pub record StandBehind (e : TableEntry) (count : ℕ) (old new : List TableEntry) : Type 0 where
  pub entries : old
      ≡ entry_row e.level (e.first + pages_at e.level) (e.word + 4096 * pages_at e.level) count ++ new
  pub range : e.first + pages_at e.level * (count + 1) ≤ 2 ^ 27

-- and are reached as it is
pub record StandInRow (e : TableEntry) (access : Access) (count : ℕ) (old new : List TableEntry) : Type 0 where
  pub behind : StandBehind e count old new
  pub alike : (i : ℕ) → i < count + 1
      → access_of (entry_of (number_of e.level) (e.word + 4096 * pages_at e.level * i)) ≡ Some access

-- of the entries that are left a row comes next that is reached alike, behind some by which nothing is reached
pub record AreNext (old : List TableEntry) (next : AlikePages) (new : List TableEntry) : Type 0 where
  pub tables : List TableEntry
  pub level : Level
  pub count : ℕ
  pub reach : reach_nothing tables ≡ true
  pub some : 0 < count
  pub pages : next.pages.count ≡ pages_at level * count
  pub follow : old ≡ tables ++ (entry_row level next.pages.first next.word count ++ new)
  pub alike : (i : ℕ) → i < count
      → access_of (entry_of (number_of level) (next.word + 4096 * pages_at level * i)) ≡ Some next.access

-- ---- those of a tree of tables, in a pool of so many pages from a page of memory on

-- such a pool
abbrev pub pool_at : ℕ → ℕ → Layout
pool_at base pages = record { base = base; pages = pages; ids = []; quotas = [] }

-- the pool page of a table
abbrev pub table_in : ℕ → ℕ → Entry → Option ℕ
table_in base pages entry = next_page (slot_from (pool_at base pages) entry)

-- an entry of a level 2 table, and those of the table that it points at
unfoldable pub with_pages : ℕ → ℕ → Words → TableEntry → List TableEntry
with_pages base pages words e =
    e ∷ option_map_or (λ k. table_entries Third e.first (words k))
    (table_in base pages (entry_of 2 e.word)) []

-- an entry of a root, and those of the tables below it
unfoldable pub with_chunks : ℕ → ℕ → Words → TableEntry → List TableEntry
with_chunks base pages words e =
    e ∷ option_map_or
    (λ j. flat_map (with_pages base pages words) (table_entries Second e.first (words j)))
    (table_in base pages (entry_of 1 e.word)) []

-- all entries of the tree at a root
unfoldable pub tree_entries : ℕ → ℕ → Words → ℕ → List TableEntry
tree_entries base pages words root =
    flat_map (with_chunks base pages words) (table_entries First 0 (words root))

-- ---- what is left of them

-- the entries of a table that are left
abbrev pub left_in : Words → Cursor → List TableEntry
left_in words c = entries_from c.level c.first (words c.table) c.index (512 - c.index)

-- the first of the pages that its next word stands for
abbrev pub next_first : Level → Cursor → ℕ
next_first level c = c.first + pages_at level * c.index

-- those of a tree: of the level 3 table that is read, of the level 2 table and of the root
unfoldable pub left_of : ℕ → ℕ → Words → Cursor → Cursor → Cursor → List TableEntry
left_of base pages words root second third =
    left_in words third
    ++ (flat_map (with_pages base pages words) (left_in words second)
    ++ flat_map (with_chunks base pages words) (left_in words root))

-- a table of this level is read, in so many pages; no more of its words that are left are not 0 than it counts
pub record IsCursor (pages : ℕ) (words : Words) (level : Level) (c : Cursor) : Type 0 where
  pub at : c.level ≡ level
  pub table : c.index < 512 → c.table < pages
  pub index : c.index ≤ 512
  pub range : c.first + 512 * pages_at level ≤ 2 ^ 27
  pub left : nonzero_in words c.table
      ≤ c.left + count_below (λ i. not (words c.table i == 0)) c.index

-- the tables of a tree that are read, in a pool of so many pages from a page of memory on
pub record AreCursors (count : ℕ) (words : Words) (base pages : ℕ) (root second third : Cursor) : Type 0 where
  pub pages_in : count ≡ pages
  pub fits : base + pages ≤ 2 ^ 27
  pub at_root : IsCursor count words First root
  pub at_second : IsCursor count words Second second
  pub at_third : IsCursor count words Third third

-- what comes next of the pages that are reached alike; none where nothing is reached by what is left
abbrev pub GivesAlike : List TableEntry → Option AlikePages → List TableEntry → Type 0
GivesAlike old next new =
    MatchOption next ((reach_nothing old ≡ true) × (new ≡ [])) (λ pages. AreNext old pages new)

-- of the entries that are left some were passed, by which nothing is reached
pub record ArePassed (old new : List TableEntry) : Type 0 where
  pub tables : List TableEntry
  pub reach : reach_nothing tables ≡ true
  pub follow : old ≡ tables ++ new

-- of both the same entries are passed
pub record PassTheSame (old new other_old other_new : List TableEntry) : Type 0 where
  pub passed : List TableEntry
  pub ours : old ≡ passed ++ new
  pub theirs : other_old ≡ passed ++ other_new

-- ---- what an entry says of the views

-- its level, first page and access
abbrev pub shown : TableEntry → Listed
shown e = record { level = number_of e.level; first = e.first; leaf = access_by e }

-- a block or page is mapped to itself, and a level 3 table has pages alone
pub record IsSound (e : TableEntry) : Type 0 where
  pub leaf : (a : Access) → access_by e ≡ Some a
      → e.word ≡ leaf_word_of (number_of e.level == 2) e.first a
  pub page : e.level ≡ Third → is_some (access_by e) ≡ true
