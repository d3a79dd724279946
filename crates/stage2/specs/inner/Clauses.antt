-- What the clauses of an edit say, of the pool before it and the pool after it.
use Rattle.std.specs.Prelude.{◌≡◌, ◌≢◌, ℕ, ◌+◌, ◌-◌, ◌*◌, ◌/◌, ◌%◌, ◌^◌, ◌<◌, ◌≤◌, Bool, nat_le, nat_lt, true, false, not, ◌&&◌, ◌==◌, if◌then◌else◌, is_some, Option, Some, None, List, length}
use Rattle.base.specs.Access.{View}
use Rattle.base.specs.Counts.{count_below}
use Rattle.base.specs.Manifest.{page_count, row_of}
use Rattle.base.specs.Need.{grow}
use Rattle.base.specs.Pages.{PageRun, covers}
use Rattle.pool.specs.Pool as memory
use Rattle.pool.specs.Pool.{Pool, InShare, pages_of, row_in, words_of, taken_of, nonzero_in, with_put, with_mark, after_replaces}
use Rattle.pool.specs.declared.runs.TableWords.{TableWords}
use Rattle.stage2.specs.declared.site.ChunkEdit.{ChunkEdit}
use Rattle.stage2.specs.declared.plan.Plan.{Plan}
use Rattle.stage2.specs.declared.site.RowEdit.{RowEdit}
use Rattle.stage2.specs.declared.site.RowPlan.{RowPlan}
use Rattle.stage2.specs.declared.site.Site.{Site}
use Rattle.stage2.specs.declared.walked.Walked.{Walked}
use Rattle.stage2.specs.declared.walked.Walked.TheVariants.{None as Unmapped}
use Rattle.stage2.specs.inner.Change.{block_step}
use Rattle.stage2.specs.Edits.{edited, AreFree, Turns, disturbs, disturbed}
use Rattle.stage2.specs.inner.Chunks.{IsEntryFor, IsWordFor, Writes, answers_at, answers_in, answers_of, second_of, entry_in, IsOutcome, IsGrowing, IsSite, Redoes_in}
use Rattle.stage2.specs.inner.Gigabytes.{grows_at, Touches, Fits, FitsGigabyte, FitsRow, IsUnderway, EditsGigabyte, EditsRow}
use Rattle.stage2.specs.inner.History.{Made, Filled, replaced}
use Rattle.stage2.specs.Moments.{StaysInStep}
use Rattle.stage2.specs.Orderly.{IsOrderly, IsCanonical, answers, linked}
use Rattle.stage2.specs.Parts.{part_count}
use Rattle.stage2.specs.Room.{pages_in, table_operations, chunk_operations, chunks_operations, gigabyte_operations, row_operations}
use Rattle.stage2.specs.Slot.{Layout, Slot, Next, slot}
use Rattle.stage2.specs.inner.Steps.{IsSeated, disturbed_below}
use Rattle.stage2.specs.Walk.{Place, Gigabyte, IsPlace, table_at, walk, walked, IsForest}

-- ---- words

-- a word is written, and nothing else
abbrev pub Puts : ℕ → ℕ → ℕ → Pool → Pool → Type 0
Puts page index word old new = pages_of new.memory ≡ with_put page index word (pages_of old.memory)

-- of the words for a chunk's pages in a table those are written that are planned, upward and below the b-th, and nothing else is done
pub record WritesPlan (k c b : ℕ) (plan : ℕ → Option View) (old new : Pool) : Type 0 where
  pub words : Writes k c plan (pages_of old.memory) (pages_of new.memory)
  pub made : Filled k c b plan old new

-- the words of table k for the pages of a chunk, all of which have this answer
pub record AreWordsOf (k c : ℕ) (answer : View) (words : TableWords) : Type 0 where
  pub page : words.page ≡ k
  pub start : words.start ≡ 512 * c
  pub below : words.start < 2 ^ 27
  pub small : words.word + words.step * 512 < 2 ^ 64
  pub each : (x : ℕ) → x < 512 → IsWordFor (512 * c + x) answer (words.word + words.step * x)
  pub valid : not (words.word == 0) ≡ is_some answer
  pub zeros : words.word ≡ 0 → words.step ≡ 0

-- the words for pages in none of the runs are valid exactly where those of pages with this answer are not
abbrev pub AreTurned : ℕ → ChunkEdit → View → Pool → Type 0
AreTurned k e answer pool =
    (i : ℕ) → i < 512 → covers e.runs (512 * e.chunk + i) ≡ false
    → (words_of pool.memory.words k i == 0) ≡ is_some answer

-- those for the runs' pages are valid exactly where the words that are written are not
abbrev pub AreRunsTurned : ℕ → ChunkEdit → Pool → Type 0
AreRunsTurned k e pool =
    (i : ℕ) → i < 512 → covers e.runs (512 * e.chunk + i) ≡ true
    → (words_of pool.memory.words k i == 0) ≡ is_some e.access

-- which they are where the edit turns its pages
abbrev pub TurnsRuns : ℕ → ChunkEdit → Pool → Type 0
TurnsRuns k e pool = e.turns ≡ true → AreRunsTurned k e pool

-- and so are its pages, by what is reached before
abbrev pub TurnsChunk : ChunkEdit → (ℕ → View) → Type 0
TurnsChunk e view = e.turns ≡ true → Turns (λ n. n / 512 == e.chunk) e.runs e.access view

-- the words of a chunk's pages from one up to another, counted from its first
abbrev pub some_pages : ℕ → ℕ → ℕ → View → ℕ → Option View
some_pages c first end answer n =
    if nat_le (512 * c + first) n && nat_lt n (512 * c + end) then Some answer else None

-- pages in none of the runs get this answer, and the others stay
abbrev pub gaps : List PageRun → View → ℕ → Option View
gaps runs answer n = if covers runs n then None else Some answer

-- the level 2 word of a chunk is broken, and another is written there
abbrev pub Replaces : ℕ → ℕ → ℕ → ℕ → Pool → Pool → Type 0
Replaces who j c word old new =
    Made (replaced who j c (words_of old.memory.words j (c % 512)) word) old new

-- no walker sees what is done, as long as this table hangs nowhere
abbrev pub IsUnseen : ℕ → Pool → Pool → Type 0
IsUnseen k old new =
    (layout : Layout) (row : ℕ) (which : ℕ → Bool) (answer : ℕ → Walked)
    → ((a : Place) → IsPlace layout a → table_at layout (words_of old.memory.words) a ≢ Some k)
    → StaysInStep layout row which answer old new

-- ---- the edit of a chunk, whose level 2 word stands at a site

-- its level 2 table may not be linked yet
abbrev pub IsAt : Site → ChunkEdit → Pool → Type 0
IsAt s e pool = IsSite e.layout.now s.row e.chunk s.second (pages_of pool.memory)

-- the row is the partition's
abbrev pub IsRowOf : Site → ChunkEdit → Type 0
IsRowOf s e = row_of e.layout.now.ids s.p ≡ s.row

-- what its level 2 word is
abbrev pub chunk_slot : Layout → ℕ → ℕ → Pool → Slot
chunk_slot layout c j pool = slot layout 2 (words_of pool.memory.words j (c % 512))

abbrev pub slot_at : Site → ChunkEdit → Pool → Slot
slot_at s e pool = chunk_slot e.layout.now e.chunk s.second pool

-- what its pages answer, read from its word on
abbrev pub read_before : ChunkEdit → Slot → Pool → ℕ → View
read_before e entry pool = answers_at e.layout.now (words_of pool.memory.words) entry

-- and after an edit
abbrev pub read_after : ChunkEdit → Slot → Pool → ℕ → View
read_after e entry pool =
    edited e.runs e.access (answers_at e.layout.now (words_of pool.memory.words) entry)

-- what its pages answer
abbrev pub chunk_view : Site → ChunkEdit → Pool → ℕ → View
chunk_view s e pool = answers_in e.layout.now s.row e.chunk s.second (pages_of pool.memory)

-- and after an edit
abbrev pub chunk_after : Site → ChunkEdit → Pool → ℕ → View
chunk_after s e pool = edited e.runs e.access (chunk_view s e pool)

-- its pages all answer so
abbrev pub AnswersAll : Site → ChunkEdit → View → Pool → Type 0
AnswersAll s e one pool = (n : ℕ) → n / 512 ≡ e.chunk → chunk_view s e pool n ≡ one

-- a page of the row's share is free
abbrev pub HasFree : ℕ → Pool → Type 0
HasFree row pool = memory.HasFree (pages_of pool.memory) row

-- the edit takes a table for it
abbrev pub GrowsChunk : Site → ChunkEdit → Pool → Type 0
GrowsChunk s e pool =
    IsGrowing (chunk_view s e pool) (chunk_after s e pool) e.chunk

-- its pages are edited
abbrev pub EditsChunk : Site → ChunkEdit → Pool → Pool → Type 0
EditsChunk s e old new =
    Redoes_in e.layout.now s.row e.chunk s.second (chunk_after s e old) (pages_of old.memory)
    (pages_of new.memory)

-- after the edit all its pages are reached as those of the runs are
abbrev pub BecomesAlike : Site → ChunkEdit → Pool → Type 0
BecomesAlike s e pool = IsOutcome e.chunk (chunk_after s e pool) (Some e.access)

-- or they are not all reached alike
abbrev pub BecomesMixed : Site → ChunkEdit → Pool → Type 0
BecomesMixed s e pool = IsOutcome e.chunk (chunk_after s e pool) None

-- the operations on its level 3 table
abbrev pub operations_in_table : Site → ChunkEdit → Pool → ℕ
operations_in_table s e pool =
    table_operations e.runs e.access (chunk_view s e pool) e.chunk

-- the operations of an edit of which it stays: the words of the runs' pages, and an invalidation of each run that is unmapped
abbrev pub operations_kept : ChunkEdit → ℕ
operations_kept e =
    pages_in e.runs e.chunk + (if is_some e.access then 0 else part_count e.chunk e.runs)

-- the words that it loses when it is given back: all, or those of the runs' pages
abbrev pub words_left : ℕ → ChunkEdit → Pool → ℕ
words_left k e pool =
    if is_some e.access then nonzero_in (words_of pool.memory.words) k else pages_in e.runs e.chunk

-- each word of the table is the one for its page's answer
abbrev pub IsSpelled : ChunkEdit → ℕ → Pool → Type 0
IsSpelled e k pool =
    (n : ℕ) → n / 512 ≡ e.chunk
    → IsWordFor n (answers_at e.layout.now (words_of pool.memory.words) (Next k) n) (words_of pool.memory.words k (n % 512))

-- what is known of the table of a chunk that is edited: its page is taken, each word is its page's, and those of the runs are turned where the edit turns them
pub record IsTableOf (e : ChunkEdit) (k : ℕ) (pool : Pool) : Type 0 where
  pub inside : k < page_count pool.memory.quotas
  pub taken : taken_of pool.memory.taken k ≡ true
  pub spelled : IsSpelled e k pool
  pub turned : TurnsRuns k e pool

-- all pages answer as the runs' pages do after an edit, or they don't answer alike
abbrev pub tells : Bool → View → Option View
tells alike access = if alike then Some access else None

-- a page of the chunk in none of the runs whose word is not that of their answer
pub record IsStray (k : ℕ) (e : ChunkEdit) (pool : Pool) : Type 0 where
  pub index : ℕ
  pub small : index < 512
  pub out : covers e.runs (512 * e.chunk + index) ≡ false
  pub other : IsWordFor (512 * e.chunk + index) e.access (words_of pool.memory.words k index) → ⊥

-- the words for pages in none of the runs are those of pages with this answer
abbrev pub OthersAnswer : ℕ → ℕ → List PageRun → View → Pool → Type 0
OthersAnswer k c runs answer pool =
    (i : ℕ) → i < 512 → covers runs (512 * c + i) ≡ false
    → IsWordFor (512 * c + i) answer (words_of pool.memory.words k i)

-- the root's word of its gigabyte links table j, or is 0 still
abbrev pub IsSeatedAt : Site → ChunkEdit → Pool → Type 0
IsSeatedAt s e pool = IsSeated e.layout.now s.row (e.chunk / 512) s.second (pages_of pool.memory)

-- walks see nothing, the old answer or the new one of the chunk's pages
abbrev pub StaysAtChunk : Layout → ℕ → ℕ → (ℕ → View) → Pool → Pool → Type 0
StaysAtChunk layout row c view old new =
    StaysInStep layout row (λ n. n / 512 == c) (λ n. walked n (view n)) old new

-- of its pages, those of a map are not mapped before
abbrev pub AreFreeIn : Site → ChunkEdit → Pool → Type 0
AreFreeIn s e pool =
    AreFree (λ n. n / 512 == e.chunk) e.runs e.access (chunk_view s e pool)

-- its pages of the runs
abbrev pub covers_in : ℕ → List PageRun → ℕ → Bool
covers_in c runs n = covers runs n && (n / 512 == c)

-- the whole edit of the chunk
abbrev pub ChunkInStep : Site → ChunkEdit → Pool → Pool → Type 0
ChunkInStep s e old new =
    IsSeatedAt s e old → AreFreeIn s e old
    → StaysInStep e.layout.now s.row
    (λ n. (n / 512 == e.chunk) && disturbs e.runs (chunk_view s e old) (chunk_after s e old) n)
    (λ n. walked n (chunk_after s e old n)) old new

-- a chunk can be edited: its word stands there, a table page is free where one is hung, and there is room for the operations
pub record CanEditChunk (s : Site) (e : ChunkEdit) (pool : Pool) (left : ℕ) : Type 0 where
  pub site : IsAt s e pool
  pub row : IsRowOf s e
  pub turned : TurnsChunk e (chunk_view s e pool)
  pub free : GrowsChunk s e pool → HasFree s.row pool
  pub room : 3 + operations_in_table s e pool ≤ left

-- it is edited
pub record IsChunkEdited (s : Site) (e : ChunkEdit) (old : Pool) (left_old : ℕ) (new : Pool) (left : ℕ) : Type 0 where
  pub edits : EditsChunk s e old new
  pub in_step : ChunkInStep s e old new
  pub room : left_old ≤ left + (3 + operations_in_table s e old)

-- the level 2 words of chunks of a gigabyte are replaced by those of blocks, or by 0
pub record ReplacesBlocks (who j g first end : ℕ) (answer : View) (old new : Pool) : Type 0 where
  pub word : ℕ
  pub block : IsEntryFor (512 * g + first) answer word
  pub state : new ≡ after_replaces who j first (end - first) word (block_step answer) (512 * (512 * g + first)) old

-- ---- the chunks of a gigabyte, whose level 2 table is j

abbrev pub IsLinkedOrderly : RowEdit → ℕ → ℕ → Pool → Type 0
IsLinkedOrderly e g j pool =
    IsOrderly e.layout.now (linked e.layout.now e.row g j (pages_of pool.memory))

abbrev pub IsSecond : RowEdit → ℕ → ℕ → Pool → Type 0
IsSecond e g j pool =
    table_at e.layout.now (linked e.layout.now e.row g j (pages_of pool.memory)).words (Gigabyte e.row g) ≡ Some j

abbrev pub linked_view : RowEdit → ℕ → ℕ → Pool → ℕ → View
linked_view e g j pool =
    answers e.layout.now (linked e.layout.now e.row g j (pages_of pool.memory)).words e.row

-- the operations that their edit makes at most
abbrev pub operations_in_chunks : RowEdit → ℕ → ℕ → List PageRun → Pool → ℕ
operations_in_chunks e g j runs pool =
    chunks_operations runs e.access (linked_view e g j pool) g

abbrev pub EditsChunks : RowEdit → ℕ → ℕ → List PageRun → Pool → Pool → Type 0
EditsChunks e g j runs old new =
    IsUnderway e.layout.now e.row g j 512 (edited runs e.access (linked_view e g j old))
    (pages_of old.memory) (pages_of new.memory)

abbrev pub ChunksInStep : RowEdit → ℕ → ℕ → List PageRun → Pool → Pool → Type 0
ChunksInStep e g j runs old new =
    IsSeated e.layout.now e.row g j (pages_of old.memory)
    → AreFree (λ n. n / 512 / 512 == g) runs e.access (linked_view e g j old)
    → StaysInStep e.layout.now e.row
    (disturbed_below g 512 runs (linked_view e g j old) (edited runs e.access (linked_view e g j old)))
    (λ n. walked n (edited runs e.access (linked_view e g j old) n)) old new

-- the free pages of the row are enough for them
abbrev pub FitsChunks : RowEdit → ℕ → ℕ → List PageRun → Pool → Type 0
FitsChunks e g j runs pool = Fits e.layout.now e.row g j runs e.access (pages_of pool.memory)

-- the chunks of runs can be edited: the tables are orderly once their level 2 table is linked, they have pages there, its own fit, and there is room for the operations
pub record CanEditChunks (e : RowEdit) (g j : ℕ) (runs : List PageRun) (pool : Pool) (left : ℕ) : Type 0 where
  pub orderly : IsLinkedOrderly e g j pool
  pub second : IsSecond e g j pool
  pub touched : Touches runs g
  pub turned : e.turns ≡ true → Turns (λ n. n / 512 / 512 == g) runs e.access (linked_view e g j pool)
  pub fits : FitsChunks e g j runs pool
  pub room : operations_in_chunks e g j runs pool ≤ left

-- they are edited
pub record AreChunksEdited (e : RowEdit) (g j : ℕ) (runs : List PageRun) (old : Pool) (left_old : ℕ) (new : Pool) (left : ℕ) : Type 0 where
  pub edits : EditsChunks e g j runs old new
  pub in_step : ChunksInStep e g j runs old new
  pub room : left_old ≤ left + operations_in_chunks e g j runs old

-- the pages from one up to another
abbrev pub is_between : ℕ → ℕ → ℕ → Bool
is_between first end i = nat_le first i && nat_lt i end

-- ---- the link of a level 2 table

abbrev pub word_in : Pool → ℕ → ℕ → ℕ
word_in pool page index = words_of pool.memory.words page index

-- a level 2 word of this table is that of a table, or wrong, if there is this table
abbrev pub points_at : Option ℕ → ℕ → Pool → Bool
points_at None i pool = false
points_at (Some j) i pool = words_of pool.memory.words j i % 4 == 3

-- all words of a page are 0
abbrev pub IsEmpty : ℕ → Pool → Type 0
IsEmpty page pool = (i : ℕ) → i < 512 → words_of pool.memory.words page i ≡ 0

-- one of them is not
abbrev pub HasWord : ℕ → Pool → Type 0
HasWord page pool = (i : ℕ) × (i < 512) × (words_of pool.memory.words page i ≢ 0)

-- a level 2 table of the partition whose words are all 0 can be unlinked
pub record CanUnlink (p row j : ℕ) (pool : Pool) : Type 0 where
  pub root : row < length pool.memory.quotas
  pub own : row_in pool.memory p ≡ row
  pub inside : InShare pool.memory.quotas row j
  pub taken : taken_of pool.memory.taken j ≡ true
  pub empty : IsEmpty j pool

-- the root's word becomes 0, and the table is given back
abbrev pub Unlinks : ℕ → ℕ → ℕ → Pool → Pool → Type 0
Unlinks row g j old new =
    pages_of new.memory ≡ with_mark j false (with_put row g 0 (pages_of old.memory))

-- which no walk of the gigabyte's pages sees, where none of them is mapped
abbrev pub UnlinksInStep : ℕ → ℕ → ℕ → Pool → Pool → Type 0
UnlinksInStep who row g old new =
    (layout : Layout) (which : ℕ → Bool) (answer : ℕ → Walked)
    → IsForest layout (words_of old.memory.words) → row < length layout.ids
    → row_of layout.ids who ≡ row
    → ((n : ℕ) → n < 2 ^ 27 → n / 512 / 512 ≡ g → walk layout (words_of old.memory.words) row n ≡ Unmapped)
    → StaysInStep layout row which answer old new

-- ---- a gigabyte, and a row

-- the free pages of the row are enough for a gigabyte
abbrev pub FitsInGigabyte : RowEdit → ℕ → List PageRun → Pool → Type 0
FitsInGigabyte e g runs pool =
    FitsGigabyte e.layout.now e.row g runs e.access (pages_of pool.memory)

-- for all of them
abbrev pub FitsInRow : RowEdit → List PageRun → Pool → Type 0
FitsInRow e runs pool = FitsRow e.layout.now e.row runs e.access (pages_of pool.memory)

abbrev pub row_view : Layout → ℕ → Pool → ℕ → View
row_view layout row pool = answers layout (words_of pool.memory.words) row

abbrev pub row_after : RowEdit → List PageRun → Pool → ℕ → View
row_after e runs pool = edited runs e.access (row_view e.layout.now e.row pool)

-- the operations that the edit of a gigabyte makes at most, and that of a row
abbrev pub operations_in_gigabyte : RowEdit → ℕ → List PageRun → Pool → ℕ
operations_in_gigabyte e g runs pool =
    gigabyte_operations runs e.access (row_view e.layout.now e.row pool) g

abbrev pub operations_in_row : RowEdit → List PageRun → Pool → ℕ
operations_in_row e runs pool =
    row_operations runs e.access (row_view e.layout.now e.row pool)

-- the level 2 table of a gigabyte, if one hangs there
abbrev pub second_at : Layout → ℕ → ℕ → Pool → Option ℕ
second_at layout row g pool = table_at layout (words_of pool.memory.words) (Gigabyte row g)

-- the pages of a gigabyte are edited
abbrev pub EditsInGigabyte : RowEdit → ℕ → List PageRun → Pool → Pool → Type 0
EditsInGigabyte e g runs old new =
    EditsGigabyte e.layout.now e.row g (row_after e runs old) (pages_of old.memory)
    (pages_of new.memory)

abbrev pub GigabyteInStep : RowEdit → ℕ → List PageRun → Pool → Pool → Type 0
GigabyteInStep e g runs old new =
    AreFree (λ n. n / 512 / 512 == g) runs e.access (row_view e.layout.now e.row old)
    → StaysInStep e.layout.now e.row
    (λ n. (n / 512 / 512 == g) && disturbed runs (row_view e.layout.now e.row old) (row_after e runs old) n)
    (λ n. walked n (row_after e runs old n)) old new

-- a gigabyte that runs touch can be edited: the tables are canonical, its own fit, and there is room for the operations
pub record CanEditGigabyte (e : RowEdit) (g : ℕ) (runs : List PageRun) (pool : Pool) (left : ℕ) : Type 0 where
  pub canonical : IsCanonical e.layout.now (pages_of pool.memory)
  pub touched : Touches runs g
  pub turned : e.turns ≡ true → Turns (λ n. n / 512 / 512 == g) runs e.access (row_view e.layout.now e.row pool)
  pub fits : FitsInGigabyte e g runs pool
  pub room : operations_in_gigabyte e g runs pool ≤ left

-- it is edited
pub record IsGigabyteEdited (e : RowEdit) (g : ℕ) (runs : List PageRun) (old : Pool) (left_old : ℕ) (new : Pool) (left : ℕ) : Type 0 where
  pub edits : EditsInGigabyte e g runs old new
  pub in_step : GigabyteInStep e g runs old new
  pub room : left_old ≤ left + operations_in_gigabyte e g runs old

-- of a row
abbrev pub EditsInRow : RowEdit → List PageRun → Pool → Pool → Type 0
EditsInRow e runs old new =
    EditsRow e.layout.now e.row (row_after e runs old) (pages_of old.memory)
    (pages_of new.memory)

abbrev pub RowInStep : RowEdit → List PageRun → Pool → Pool → Type 0
RowInStep e runs old new =
    AreFree (λ n. true) runs e.access (row_view e.layout.now e.row old)
    → StaysInStep e.layout.now e.row
    (disturbed runs (row_view e.layout.now e.row old) (row_after e runs old))
    (λ n. walked n (row_after e runs old n)) old new

-- a row can be edited: the tables are canonical, its pages are turned where the edit says so, its own fit, and there is room for the operations
pub record CanEditRow (e : RowEdit) (runs : List PageRun) (pool : Pool) (left : ℕ) : Type 0 where
  pub canonical : IsCanonical e.layout.now (pages_of pool.memory)
  pub turned : e.turns ≡ true → Turns (λ n. nat_lt n (2 ^ 27)) runs e.access (row_view e.layout.now e.row pool)
  pub fits : FitsInRow e runs pool
  pub room : operations_in_row e runs pool ≤ left

-- it is edited
pub record IsRowEdited (e : RowEdit) (runs : List PageRun) (old : Pool) (left_old : ℕ) (new : Pool) (left : ℕ) : Type 0 where
  pub edits : EditsInRow e runs old new
  pub in_step : RowInStep e runs old new
  pub room : left_old ≤ left + operations_in_row e runs old

-- ---- a partition that may have no root

abbrev pub view_in : Layout → Option ℕ → Pool → ℕ → View
view_in layout row pool = answers_of layout (words_of pool.memory.words) row

abbrev pub second_in : Layout → Option ℕ → ℕ → Pool → Option ℕ
second_in layout row g pool = second_of layout (words_of pool.memory.words) row g

-- pages of its runs are turned, where the edit turns them
abbrev pub TurnsIn : RowPlan → (ℕ → Bool) → List PageRun → Pool → Type 0
TurnsIn e which runs pool =
    e.turns ≡ true → Turns which runs e.access (view_in e.layout.now e.row pool)

-- a chunk's level 2 word in the table of its gigabyte, if that has one
abbrev pub entry_read : Layout → Option ℕ → ℕ → Pool → Slot
entry_read layout second i pool = entry_in layout (words_of pool.memory.words) second i

-- the level 3 tables of the new view in this gigabyte at places where the old has none
abbrev pub chunks_growth : (ℕ → View) → (ℕ → View) → ℕ → ℕ
chunks_growth old new g = count_below (λ x. grows_at old new (512 * g + x)) 512

-- what the edit of a chunk needs that has pages of its runs, and whose pages had these answers: a table, if one is to be hung, and operations at most, of
-- which few are more than it makes, where words were looked at
pub record IsEditPlanned (before : ℕ → View) (e : ChunkEdit) (grows looked : Bool) (plan : Plan) : Type 0 where
  pub tables : plan.tables ≡ (if grows then 1 else 0)
  pub operations : 3 + table_operations e.runs e.access before e.chunk ≤ plan.operations
  pub close : looked ≡ true → plan.operations ≤ 7 + table_operations e.runs e.access before e.chunk
  pub most : plan.operations ≤ 1027

-- what an edit needs for a chunk whose pages had these answers: so many tables, and operations at most
pub record IsChunkPlanned (before : ℕ → View) (runs : List PageRun) (access : View) (c : ℕ) (plan : Plan) : Type 0 where
  pub tables : plan.tables ≡ (if grows_at before (edited runs access before) c then 1 else 0)
  pub operations : chunk_operations runs access before c ≤ plan.operations
  pub most : plan.operations ≤ 1027

-- the same for the chunks of a gigabyte
pub record ArePlanned (e : RowPlan) (g : ℕ) (runs : List PageRun) (pool : Pool) (plan : Plan) : Type 0 where
  pub tables : plan.tables ≡ chunks_growth (view_in e.layout.now e.row pool) (edited runs e.access (view_in e.layout.now e.row pool)) g
  pub operations : chunks_operations runs e.access (view_in e.layout.now e.row pool) g ≤ plan.operations
  pub few : plan.tables ≤ 512
  pub most : plan.operations ≤ 1027 * 512

-- and for all runs
pub record IsRowPlanned (e : RowPlan) (runs : List PageRun) (pool : Pool) (plan : Plan) : Type 0 where
  pub tables : plan.tables ≡ grow (view_in e.layout.now e.row pool) (edited runs e.access (view_in e.layout.now e.row pool))
  pub operations : row_operations runs e.access (view_in e.layout.now e.row pool) ≤ plan.operations
  pub most : plan.operations ≤ 2 ^ 29
