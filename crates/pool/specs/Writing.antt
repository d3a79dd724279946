-- What the writers of a page's words ask for, and what they do.
use Rattle.std.specs.Prelude.{◌≡◌, ◌≢◌, ℕ, ◌+◌, ◌-◌, ◌*◌, ◌<◌, ◌≤◌, ◌^◌, ◌++◌, ◌==◌, not, Bool, true, List, length, reverse, Vec, vec_len, vec_capacity}
use Rattle.std.specs.declared.alloc.Global.{Global}
use denote.RawPtr.{Ptr}
use Rattle.base.specs.Pages.{PageRun, covers}
use Rattle.pool.specs.Cells.{held, IsPageFilled, AreMarked}
use Rattle.pool.specs.Pool.{Pool, words_of, words_in, nonzero_in, words_set, sets_of, after_sets, after_runs, gaps_of, after_replaces}
use Rattle.pool.specs.Shown.{IsShown, AllDiffer}
use Rattle.pool.specs.declared.cells.Cells.{Cells}
use Rattle.pool.specs.declared.log.Log.{Log}
use Rattle.pool.specs.declared.operation.Op.{Op}
use Rattle.pool.specs.declared.replace.Replacement.{Replacement}
use Rattle.pool.specs.declared.runs.TableWords.{TableWords}
use Rattle.pool.specs.declared.stretch.WordAt.{WordAt}
use Rattle.pool.specs.declared.word_range.WordRange.{WordRange}

-- ---- the list of operations

-- it has room for so many more operations
abbrev pub HasRoom : Vec Op Global → ℕ → Type 0
HasRoom list more = vec_len list + more ≤ vec_capacity list

-- it has so many more at most, and its capacity stays
pub record Grows (most : ℕ) (old new : Vec Op Global) : Type 0 where
  pub len : vec_len new ≤ vec_len old + most
  pub capacity : vec_capacity new ≡ vec_capacity old

abbrev pub log_of : Vec Op Global → ℕ → Log
log_of operations nonzero = record { operations = operations; nonzero = nonzero }

-- a log counts the words of a page that are not 0, and has room for so many more operations
pub record IsReady (words : List ℕ) (page more : ℕ) (log : Log) : Type 0 where
  pub counted : log.nonzero ≡ nonzero_in (words_of words) page
  pub room : HasRoom log.operations more

-- What is written of a page is a step, of so many operations at most: where a store's words and a log show a pool, those after show what the step makes of it.
pub record Wrote (step : Pool → Pool) (page most : ℕ) (old new : List ℕ) (before after : Log) : Type 0 where
  pub shown : (pool : Pool) → IsShown old before.operations.items pool → IsShown new after.operations.items (step pool)
  pub whole : length new ≡ length old
  pub counted : after.nonzero ≡ nonzero_in (words_of new) page
  pub grows : Grows most before.operations after.operations

-- ---- the words of a page

-- its words may be looked at and written: it stands in memory
pub record IsHeld (words : List ℕ) (stands : ℕ → Bool) (page : ℕ) : Type 0 where
  pub inside : 512 * page + 512 ≤ length words
  pub standing : stands page ≡ true

-- ---- the words of a range

-- a store's words with those of a range in their place
abbrev pub with_range : List ℕ → WordRange → List ℕ
with_range words range =
    words_set words range.page range.first (range.end - range.first) range.word range.step

-- the writes that make them, of those that are not there
abbrev pub writes_of : List ℕ → WordRange → List Op
writes_of words range =
    sets_of words range.page range.first (range.end - range.first) range.word range.step

-- and what both make of a pool
abbrev pub range_set : WordRange → Pool → Pool
range_set range = after_sets range.page range.first (range.end - range.first) range.word range.step

-- none of them is there
abbrev pub NoneThere : List ℕ → WordRange → Type 0
NoneThere words range =
    AllDiffer words range.page range.first (range.end - range.first) range.word range.step

-- each of them is there
abbrev pub AreThere : List ℕ → WordRange → Type 0
AreThere words range =
    (x : ℕ) → x < range.end - range.first
    → words_of words range.page (range.first + x) ≡ range.word + range.step * x

-- one of them is not
pub record IsMissing (words : List ℕ) (range : WordRange) : Type 0 where
  pub index : ℕ
  pub small : index < range.end - range.first
  pub other : words_of words range.page (range.first + index) ≢ range.word + range.step * index

-- none is there, and it is known which are 0: exactly those in whose place others come
pub record Turns (words : List ℕ) (range : WordRange) : Type 0 where
  pub zeros : range.word ≡ 0 → range.step ≡ 0
  pub each : (x : ℕ) → x < range.end - range.first
      → (words_of words range.page (range.first + x) == 0) ≡ not (range.word == 0)

-- the words of a range may be written to a store: they are below 2^64, and their page stands in memory
pub record MayWrite (words : List ℕ) (stands : ℕ → Bool) (range : WordRange) : Type 0 where
  pub ordered : range.first ≤ range.end
  pub index_in : range.end ≤ 512
  pub in_range : range.word + range.step * (range.end - range.first) < 2 ^ 64
  pub page_in : IsHeld words stands range.page

-- the writes of those that are not there are recorded behind operations
abbrev pub Records : List ℕ → WordRange → List Op → List Op → Type 0
Records words range old new = reverse new ≡ writes_of words range ++ reverse old

-- they are, whatever the words were, if none of these was there
pub record RecordsAll (range : WordRange) (old new : Vec Op Global) : Type 0 where
  pub records : (words : List ℕ) → 512 * range.page + 512 ≤ length words → NoneThere words range → Records words range old.items new.items
  pub grows : Grows (range.end - range.first) old new

-- they may be put into the places of a block, whose page is filled
pub record MayPut (base : Ptr) (cells : Cells ℕ) (range : WordRange) : Type 0 where
  pub place : base ≡ cells.at
  pub filled : IsPageFilled cells.slots range.page
  pub ordered : range.first ≤ range.end
  pub index_in : range.end ≤ 512
  pub inside : 512 * range.page + 512 ≤ length cells.slots
  pub in_range : range.word + range.step * (range.end - range.first) < 2 ^ 64

-- they are put there
pub record Puts (range : WordRange) (old new : Cells ℕ) : Type 0 where
  pub place : new.at ≡ old.at
  pub len : length new.slots ≡ length old.slots
  pub filled : IsPageFilled new.slots range.page
  pub words : held new.slots ≡ with_range (held old.slots) range
  pub marked : (marks : List Bool) → AreMarked marks old.slots → AreMarked marks new.slots

-- ---- one word

-- it may be written, and whether the word in its place is 0 is known
pub record MayWriteAt (words : List ℕ) (stands : ℕ → Bool) (at : WordAt) (before : ℕ) : Type 0 where
  pub index_in : at.index < 512
  pub page_in : IsHeld words stands at.page
  pub turned : (before == 0) ≡ (words_of words at.page at.index == 0)

-- ---- words that stand for pages of runs

-- they may be written to a store
pub record MayWriteRuns (words : List ℕ) (stands : ℕ → Bool) (with : TableWords) : Type 0 where
  pub start_in : with.start < 2 ^ 27
  pub in_range : with.word + with.step * 512 < 2 ^ 64
  pub page_in : IsHeld words stands with.page

-- each of them that stands for a page in none of the runs is there
abbrev pub AreGapsThere : List ℕ → TableWords → List PageRun → Type 0
AreGapsThere words with runs =
    (i : ℕ) → i < 512 → covers (gaps_of with.start runs) (with.start + i) ≡ true
    → words_of words with.page i ≡ with.word + with.step * i

-- one of those is not
pub record IsGapMissing (words : List ℕ) (with : TableWords) (runs : List PageRun) : Type 0 where
  pub index : ℕ
  pub small : index < 512
  pub gap : covers (gaps_of with.start runs) (with.start + index) ≡ true
  pub other : words_of words with.page index ≢ with.word + with.step * index

-- the word at an index is 0 exactly where they are not
abbrev pub IsTurned : List ℕ → TableWords → ℕ → Type 0
IsTurned words with i = (words_of words with.page i == 0) ≡ not (with.word == 0)

-- all are turned that stand for pages of runs: none is there, and it is known which are 0
pub record TurnRuns (words : List ℕ) (with : TableWords) (runs : List PageRun) : Type 0 where
  pub zeros : with.word ≡ 0 → with.step ≡ 0
  pub each : (i : ℕ) → i < 512 → covers runs (with.start + i) ≡ true → IsTurned words with i

-- all that stand for pages in none of them
abbrev pub TurnGaps : List ℕ → TableWords → List PageRun → Type 0
TurnGaps words with runs = TurnRuns words with (gaps_of with.start runs)

-- words for the pages of runs can be written: it may be known that they are turned, and there is room for their operations
pub record CanWriteRuns (known : Bool) (words : List ℕ) (stands : ℕ → Bool) (with : TableWords) (runs : List PageRun) (log : Log) : Type 0 where
  pub may : MayWriteRuns words stands with
  pub turned : known ≡ true → TurnRuns words with runs
  pub ready : IsReady words with.page (words_in with.start runs) log

-- and those from one index up to another
pub record CanWriteIndexes (known : Bool) (words : List ℕ) (stands : ℕ → Bool) (with : TableWords) (first end : ℕ) (log : Log) : Type 0 where
  pub may : MayWriteRuns words stands with
  pub most : end ≤ 512
  pub zeros : known ≡ true → with.word ≡ 0 → with.step ≡ 0
  pub each : known ≡ true → (i : ℕ) → first ≤ i → i < end → IsTurned words with i
  pub ready : IsReady words with.page (end - first) log

-- what they make of a pool, for the pages of runs
abbrev pub runs_set : TableWords → List PageRun → Pool → Pool
runs_set with runs = after_runs with.page with.start with.word with.step runs

-- and from one index up to another
abbrev pub indexes_set : TableWords → ℕ → ℕ → Pool → Pool
indexes_set with first end = after_sets with.page first (end - first) (with.word + with.step * first) with.step

-- the run of one page
abbrev pub page_alone : ℕ → PageRun
page_alone page = record { first = page; count = 1 }

-- ---- words that are replaced

-- the 512 pages from one on, for which each of them stands
abbrev pub block_from : ℕ → PageRun
block_from start = record { first = start; count = 512 }

-- they can be: they may be written, their pages are below 2^27, and there is room for three operations for each
pub record CanReplace (words : List ℕ) (stands : ℕ → Bool) (with : Replacement) (log : Log) : Type 0 where
  pub may : MayWrite words stands with.range
  pub pages_in : with.start + 512 * (with.range.end - with.range.first) ≤ 2 ^ 27
  pub ready : IsReady words with.range.page (3 * (with.range.end - with.range.first)) log

-- what they make of a pool
abbrev pub replaces : Replacement → Pool → Pool
replaces with =
    after_replaces with.who with.range.page with.range.first (with.range.end - with.range.first)
    with.range.word with.range.step with.start
