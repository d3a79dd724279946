-- What a table memory holds, and what its calls make of it.
use Rattle.std.specs.Prelude.{◌≡◌, ℕ, zero, suc, ◌+◌, ◌-◌, ◌*◌, ◌%◌, ◌^◌, ◌<◌, ◌≤◌, Bool, true, false, not, ◌==◌, ◌&&◌, if◌then◌else◌, nat_lt, nat_le, min, max, List, [], ◌∷◌, ◌++◌, length, sum, take, replicate, get_or, slice_index, slice_index_or, slice_set}
use Rattle.std.specs.List.{list_all}
use Rattle.base.specs.Counts.{count_below}
use Rattle.base.specs.Pages.{PageRun}
use Rattle.base.specs.Manifest.{ManifestRows, ids_of, quotas_of, row_of, page_count}
use Rattle.pool.specs.declared.operation.Op.{Op}
use Rattle.pool.specs.declared.operation.Op.TheVariants.{Set, Invalidate, Clear}

-- the partitions' identifiers and quotas, the words of all pages, page by page and 512 to a page, and which pages are taken
pub record Memory : Type 0 where
  pub ids : List ℕ
  pub quotas : List ℕ
  pub words : List ℕ
  pub taken : List Bool

-- the memory, the operations since the list was emptied, the latest first, and how many were made in all, modulo 2^64
pub record Pool : Type 0 where
  pub memory : Memory
  pub operations : List Op
  pub made : ℕ

-- ---- the same memory as functions

-- the words of all pages, by page and index
abbrev pub Words : Type 0
Words = ℕ → ℕ → ℕ

unfoldable pub words_of : List ℕ → Words
words_of words =
    λ page index. if nat_lt index 512 then slice_index words (512 * page + index) else 0

-- how many words of a page are not 0
unfoldable pub nonzero_in : Words → ℕ → ℕ
nonzero_in words page = count_below (λ i. not (words page i == 0)) 512

unfoldable pub taken_of : List Bool → ℕ → Bool
taken_of taken = λ page. slice_index_or taken page false

pub record Pages : Type 0 where
  pub ids : List ℕ
  pub quotas : List ℕ
  pub words : Words
  pub taken : ℕ → Bool

abbrev pub pages_of : Memory → Pages
pages_of m =
    record { ids = m.ids; quotas = m.quotas; words = words_of m.words; taken = taken_of m.taken }

-- these words with one of them changed
unfoldable pub put : ℕ → ℕ → ℕ → Words → Words
put page index word words = λ q i. if (q == page) && (i == index) then word else words q i

-- this set of pages with one of them in it or not
unfoldable pub mark : ℕ → Bool → (ℕ → Bool) → ℕ → Bool
mark page is taken = λ q. if q == page then is else taken q

abbrev pub with_put : ℕ → ℕ → ℕ → Pages → Pages
with_put page index word m = record m { words = put page index word m.words }

abbrev pub with_mark : ℕ → Bool → Pages → Pages
with_mark page is m = record m { taken = mark page is m.taken }

-- ---- roots and shares

-- the row of a partition, which is also the page of its root; for one that has no row, the number of rows
abbrev pub row_in : Memory → ℕ → ℕ
row_in m p = row_of m.ids p

-- no identifier stands twice
abbrev pub StandOnce : List ℕ → Type 0
StandOnce ids = (i : ℕ) → i < length ids → row_of ids (get_or ids i 0) ≡ i

-- the partition has a row
abbrev pub HasRow : Memory → ℕ → Type 0
HasRow m p = row_in m p < length m.ids

-- the first page of a row's share
abbrev pub share_start : List ℕ → ℕ → ℕ
share_start quotas row = length quotas + sum (take row quotas)

abbrev pub row_quota : List ℕ → ℕ → ℕ
row_quota quotas row = slice_index quotas row

-- the page stands in the share of a row
pub record InShare (quotas : List ℕ) (row page : ℕ) : Type 0 where
  pub partition : row < length quotas
  pub from : share_start quotas row ≤ page
  pub to : page < share_start quotas row + row_quota quotas row

-- how many pages of a row's share are taken
abbrev pub used_of : List ℕ → (ℕ → Bool) → ℕ → ℕ
used_of quotas taken row = count_below (λ k. taken (share_start quotas row + k)) (row_quota quotas row)

abbrev pub used_by : Pages → ℕ → ℕ
used_by m row = used_of m.quotas m.taken row

-- a list of how many pages of each row's share are free
pub record CountsFree (quotas : List ℕ) (taken : List Bool) (free : List ℕ) : Type 0 where
  pub rows : length free ≡ length quotas
  pub each : (row : ℕ) → row < length quotas
      → slice_index free row + used_of quotas (taken_of taken) row ≡ row_quota quotas row

-- the first page of each row's share
pub record AreShareStarts (quotas starts : List ℕ) : Type 0 where
  pub rows : length starts ≡ length quotas
  pub each : (row : ℕ) → row < length quotas → slice_index starts row ≡ share_start quotas row

-- for each row a page, from the first of its share on, below which no page of the share is free
pub record NoneFreeBelow (quotas : List ℕ) (taken : List Bool) (lowest : List ℕ) : Type 0 where
  pub rows : length lowest ≡ length quotas
  pub from : (row : ℕ) → row < length quotas → share_start quotas row ≤ slice_index lowest row
  pub below : (row page : ℕ) → InShare quotas row page → page < slice_index lowest row → taken_of taken page ≡ true

-- how many pages of a row's share are free
abbrev pub free_of : Pages → ℕ → ℕ
free_of m row = row_quota m.quotas row - used_by m row

-- a list of how many words of each page are not 0
pub record CountsNonzero (quotas words nonzero : List ℕ) : Type 0 where
  pub pages : length nonzero ≡ page_count quotas
  pub each : (page : ℕ) → page < page_count quotas → slice_index nonzero page ≡ nonzero_in (words_of words) page

-- the free page of a row's share with the lowest number
pub record IsLowestFree (m : Pages) (row page : ℕ) : Type 0 where
  pub inside : InShare m.quotas row page
  pub free : m.taken page ≡ false
  pub lowest : (q : ℕ) → InShare m.quotas row q → q < page → m.taken q ≡ true

-- a page of a row's share is free
abbrev pub HasFree : Pages → ℕ → Type 0
HasFree m row = used_by m row < row_quota m.quotas row

-- ---- the calls

-- all words are 0, and the roots alone are taken
abbrev pub new_memory : ManifestRows → Memory
new_memory m =
    record {
      ids = ids_of m.partitions;
      quotas = quotas_of m.partitions;
      words = replicate (512 * page_count (quotas_of m.partitions)) 0;
      taken = replicate (length m.partitions) true
          ++ replicate (sum (quotas_of m.partitions)) false;
    }

abbrev pub new_pool : ManifestRows → Pool
new_pool m = record { memory = new_memory m; operations = []; made = 0 }

abbrev pub with_word : ℕ → ℕ → ℕ → Memory → Memory
with_word page index word m = record m { words = slice_set m.words (512 * page + index) word }

abbrev pub with_taken : ℕ → Bool → Memory → Memory
with_taken page is m = record m { taken = slice_set m.taken page is }

-- one more operation, over this memory
abbrev pub logged : Op → Memory → Pool → Pool
logged op memory pool =
    record { memory = memory; operations = op ∷ pool.operations; made = (pool.made + 1) % 2 ^ 64 }

abbrev pub after_set : ℕ → ℕ → ℕ → Pool → Pool
after_set page index word pool =
    logged (Set page index word) (with_word page index word pool.memory) pool

-- these words of a page with others in their place: from an index on so many, each a step more than the one before
unfoldable pub words_set : List ℕ → ℕ → ℕ → ℕ → ℕ → ℕ → List ℕ
words_set words page first zero word step = words
words_set words page first (suc n) word step =
    slice_set (words_set words page first n word step) (512 * page + (first + n)) (word + step * n)

-- the writes that make them, upward, of those that are not there; the latest stands first
unfoldable pub sets_of : List ℕ → ℕ → ℕ → ℕ → ℕ → ℕ → List Op
sets_of words page first zero word step = []
sets_of words page first (suc n) word step =
    (if slice_index (words_set words page first n word step) (512 * page + (first + n)) == word + step * n then [] else (Set page (first + n) (word + step * n) ∷ []))
    ++ sets_of words page first n word step

-- how many operations were made, modulo 2^64, after these
abbrev pub counted : List Op → ℕ → ℕ
counted [] n = n
counted (op ∷ ops) n = (counted ops n + 1) % 2 ^ 64

abbrev pub after_sets : ℕ → ℕ → ℕ → ℕ → ℕ → Pool → Pool
after_sets page first n word step pool =
    record {
      memory = record pool.memory { words = words_set pool.memory.words page first n word step };
      operations = sets_of pool.memory.words page first n word step ++ pool.operations;
      made = counted (sets_of pool.memory.words page first n word step) pool.made;
    }

-- which of the 512 words of a page stands for a page n, where the first stands for `start`: 512 where it is behind them all, and 0 where it is before
abbrev pub index_from : ℕ → ℕ → ℕ
index_from start n = min (n - start) 512

-- how many of the 512 words stand for pages of runs that are apart
abbrev pub words_in : ℕ → List PageRun → ℕ
words_in start [] = 0
words_in start (run ∷ runs) =
    (index_from start (run.first + run.count) - index_from start run.first) + words_in start runs

-- the words for the pages of a run are written
abbrev pub after_run : ℕ → ℕ → ℕ → ℕ → PageRun → Pool → Pool
after_run page start word step run pool =
    after_sets page (index_from start run.first) (index_from start (run.first + run.count) - index_from start run.first) (word + step * index_from start run.first) step pool

-- and those of some runs, one after another
unfoldable pub after_runs : ℕ → ℕ → ℕ → ℕ → List PageRun → Pool → Pool
after_runs page start word step [] pool = pool
after_runs page start word step (run ∷ runs) pool = after_runs page start word step runs (after_run page start word step run pool)

-- the pages for which the words from one index up to another stand, as a run, if there are any
abbrev pub gap : ℕ → ℕ → ℕ → List PageRun
gap start first end =
    if nat_lt first end then (record { first = start + first; count = end - first } ∷ []) else []

-- the pages in none of some runs, of those for which the words from an index on stand, as runs
unfoldable pub gaps_from : ℕ → ℕ → List PageRun → List PageRun
gaps_from start first [] = gap start first 512
gaps_from start first (run ∷ runs) =
    gap start first (index_from start run.first)
    ++ gaps_from start (max first (index_from start (run.first + run.count))) runs

-- of all 512
abbrev pub gaps_of : ℕ → List PageRun → List PageRun
gaps_of start runs = gaps_from start 0 runs

abbrev pub after_invalidate : ℕ → PageRun → Pool → Pool
after_invalidate p run pool = logged (Invalidate p run) pool.memory pool

abbrev pub after_clear : PageRun → Pool → Pool
after_clear run pool = logged (Clear run) pool.memory pool

-- a word that is not 0 becomes 0, and the pages that it stands for are invalidated for a partition
abbrev pub after_break : ℕ → ℕ → ℕ → PageRun → Pool → Pool
after_break p page index run pool =
    if words_of pool.memory.words page index == 0 then pool
    else after_invalidate p run (after_set page index 0 pool)

-- a word is written where 0 stands, if it is not 0
abbrev pub after_make : ℕ → ℕ → ℕ → Pool → Pool
after_make page index word pool = if word == 0 then pool else after_set page index word pool

-- Words of a page, from an index on so many, are broken, and others are written there, one after another: each is a step more than the one before, and
-- each stands for 512 pages.
unfoldable pub after_replaces : ℕ → ℕ → ℕ → ℕ → ℕ → ℕ → ℕ → Pool → Pool
after_replaces p page first zero word step start pool = pool
after_replaces p page first (suc n) word step start pool =
    after_make page (first + n) (word + step * n)
    (after_break p page (first + n) (record { first = start + 512 * n; count = 512 })
    (after_replaces p page first n word step start pool))

abbrev pub after_take : ℕ → Pool → Pool
after_take page pool = record pool { memory = with_taken page true pool.memory }

abbrev pub after_give : ℕ → Pool → Pool
after_give page pool = record pool { memory = with_taken page false pool.memory }

abbrev pub emptied : Pool → Pool
emptied pool = record pool { operations = [] }

-- ---- where operations lie

-- a write is into a word of a page, an invalidation and a clear are of pages below 2^27, the first of a partition that has a row
abbrev pub lies_in : List ℕ → List ℕ → Op → Bool
lies_in ids quotas (Set page index word) = nat_lt page (page_count quotas) && nat_lt index 512
lies_in ids quotas (Invalidate who run) =
    nat_lt (row_of ids who) (length ids) && nat_le (run.first + run.count) (2 ^ 27)
lies_in ids quotas (Clear run) = nat_le (run.first + run.count) (2 ^ 27)

-- all operations of the list do
abbrev pub all_lie_in : Pool → Bool
all_lie_in pool = list_all (lies_in pool.memory.ids pool.memory.quotas) pool.operations

-- ---- a copy of the words

-- how many pages it has, and the words of all of them, page by page and 512 to a page
pub record ImageWords : Type 0 where
  pub pages : ℕ
  pub words : List ℕ

abbrev pub image_of : Memory → ImageWords
image_of m = record { pages = page_count m.quotas; words = m.words }

-- the operation writes no word outside the copy
abbrev pub IsInImage : Op → ImageWords → Type 0
IsInImage (Set page index word) image = (page < image.pages) × (index < 512)
IsInImage (Invalidate who run) image = Unit {0}
IsInImage (Clear run) image = Unit {0}

-- a write changes its word; an invalidation and a clear change none
abbrev pub applied : Op → Words → Words
applied (Set page index word) words = put page index word words
applied (Invalidate who run) words = words
applied (Clear run) words = words

-- the lists are as long as the quotas say, and have a row for each
pub record IsWhole (m : Memory) : Type 0 where
  pub ids : length m.ids ≡ length m.quotas
  pub words : length m.words ≡ 512 * page_count m.quotas
  pub taken : length m.taken ≡ page_count m.quotas
