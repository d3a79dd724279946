-- How many operations an edit makes at most.
use Rattle.std.specs.Prelude.{ℕ, zero, suc, ◌+◌, ◌*◌, min, Bool, if◌then◌else◌, is_some, List}
use Rattle.base.specs.Access.{View}
use Rattle.base.specs.Counts.{count_below}
use Rattle.base.specs.Need.{is_mixed}
use Rattle.base.specs.Pages.{PageRun, covers}
use Rattle.stage2.specs.Edits.{edited, touches_chunk}
use Rattle.stage2.specs.Parts.{part_count}

-- the sum of the first of some numbers
unfoldable pub sum_below : (ℕ → ℕ) → ℕ → ℕ
sum_below f zero = 0
sum_below f (suc n) = f n + sum_below f n

-- how many pages of a chunk are among these, counted from its first
unfoldable pub pages_among : (ℕ → Bool) → ℕ
pages_among which = count_below which 512

-- how many of its pages the runs have
abbrev pub pages_in : List PageRun → ℕ → ℕ
pages_in runs c = pages_among (λ i. covers runs (512 * c + i))

-- how many of them are reached
abbrev pub reached_in : (ℕ → View) → ℕ → ℕ
reached_in view c = pages_among (λ i. is_some (view (512 * c + i)))

-- The words of its level 3 table that the edit of a chunk writes, and its invalidations of single pages. A table that stays gets the words of the runs' pages, which are
-- invalidated run by run where they are reached no more; one that is hung has a word for each page that is reached then; and one that goes loses the words of those that
-- were, or, where none is reached any more, those of the runs.
abbrev pub table_operations : List PageRun → View → (ℕ → View) → ℕ → ℕ
table_operations runs access before c =
    let after = edited runs access before in
    if is_mixed after c
    then (if is_mixed before c then pages_in runs c + (if is_some access then 0 else part_count c runs) else reached_in after c)
    else (if is_mixed before c then (if is_some (after (512 * c)) then reached_in before c else pages_in runs c) else 0)

-- with three on the chunk's own word
abbrev pub chunk_operations : List PageRun → View → (ℕ → View) → ℕ → ℕ
chunk_operations runs access before c =
    if touches_chunk c runs then 3 + table_operations runs access before c else 0

-- the operations of all chunks of a gigabyte
abbrev pub chunks_operations : List PageRun → View → (ℕ → View) → ℕ → ℕ
chunks_operations runs access before g =
    sum_below (λ x. chunk_operations runs access before (512 * g + x)) 512

-- with two on the root's word, if a chunk is touched
abbrev pub gigabyte_operations : List PageRun → View → (ℕ → View) → ℕ → ℕ
gigabyte_operations runs access before g =
    let chunks = chunks_operations runs access before g in
    chunks + min 2 chunks

-- the operations of all gigabytes
abbrev pub row_operations : List PageRun → View → (ℕ → View) → ℕ
row_operations runs access before = sum_below (gigabyte_operations runs access before) 512
