-- What a table memory keeps at each write, and what its searches find.
use Rattle.std.proofs.Common.{◌≡◌, ℕ, ◌+◌, ◌<◌, ◌≤◌, ◌==◌, if◌then◌else◌, ◌^◌, Bool, true, false, List, length, slice_index, slice_set, ◌∙◌, replicate, ◌++◌, arith, IsTrue}
use Rattle.pool.proofs.Names.{common_steps, nat_tests, ManifestRows, quotas_of, page_count, Memory, Pages, InShare, HasFree, IsLowestFree, taken_of, with_mark, share_start, row_quota, pages_of, CountsFree, NoneFreeBelow, new_memory, used_by, TablePool, IsFirstUnmarked}
use Rattle.std.proofs.lemmas.List.{length-set, get_or-set_same, get_or-set_other}
use Rattle.manifest.specs.Valid.{is_valid}
use Rattle.pool.specs.declared.word_store.WordStore.{Ghosts}
use Rattle.marks.specs.Marks.{AllMarkedFrom}
use Rattle.pool.proofs.Words.{taken_of-set, mark-set}
use Rattle.pool.proofs.Shares.{row_quota-none, share_at, share_inside, share_unique, used_by-new, used_by-other}
use Rattle.pool.proofs.Count.{count_below-all}

-- ---- at first the roots alone are taken

pub roots-new : (roots shares row : ℕ) → row < roots → taken_of (replicate roots true ++ replicate shares false) row ≡ true
unfolding taken_of
roots-new roots shares row below = grind (arith, common_steps)

pub taken_of-new : (roots shares page : ℕ) → taken_of (replicate roots true ++ replicate shares false) page ≡ true → page < roots
unfolding taken_of
taken_of-new roots shares page held = grind (arith, common_steps, nat_tests)

-- ---- rows

-- where a page is free there is a row
pub row-within : (m : Pages) (row : ℕ) → HasFree m row → row < length m.quotas
row-within m row free = grind (arith, nat_tests, row_quota-none)

-- ---- the search for a free page

-- what a memory holds, and its pages as functions
abbrev pub memory_in : {S : Type 0} {g : Ghosts S} → TablePool S g → Memory
memory_in {g = g} m = record { ids = m.ids; quotas = m.quotas.items; words = g.words m.store; taken = m.taken }

abbrev pub pages_in : {S : Type 0} {g : Ghosts S} → TablePool S g → Pages
pages_in m = pages_of (memory_in m)

-- where some are free, not each page of a share is taken
free-some : (m : Pages) (row : ℕ) → HasFree m row → ((q : ℕ) → InShare m.quotas row q → m.taken q ≡ true) → ⊥
free-some m row free held = grind (arith, nat_tests, count_below-all, share_at)

-- nor are all from the page on below which none is free
pub some-unmarked : (m : Memory) (lowest : List ℕ) (row : ℕ) → NoneFreeBelow m.quotas m.taken lowest → length m.taken ≡ page_count m.quotas → HasFree (pages_of m) row → ¬ AllMarkedFrom m.taken (slice_index lowest row)
unfolding taken_of
some-unmarked m lowest row below whole free held = free-some (pages_of m) row free (λ q inside. grind (arith, nat_tests, below.below row q inside, held q, share_inside m.quotas row q inside))

-- the next one that is not taken is the lowest free one
pub found-lowest : (m : Memory) (lowest : List ℕ) (row found : ℕ) → NoneFreeBelow m.quotas m.taken lowest → HasFree (pages_of m) row → IsFirstUnmarked m.taken (slice_index lowest row) found → IsLowestFree (pages_of m) row found
unfolding taken_of
found-lowest m lowest row found below free first =
    let inside = share_at m.quotas row 0 (omega (arith, free)) in
    let before : (q : ℕ) → InShare m.quotas row q → q < found → taken_of m.taken q ≡ true = λ q in_share early. grind (arith, nat_tests, below.below row q in_share, first.before q) in
    record {
      inside = record {
        partition = inside.partition;
        from = omega (arith, first.from, below.from row inside.partition);
        to = grind (arith, nat_tests, before, free-some (pages_of m) row free);
      };
      free = first.free;
      lowest = before;
    }

-- ---- the page below which none is free

-- a page of a row's share gets another mark, and the row another such page
pub below-set : {quotas lowest : List ℕ} {taken : List Bool} {row page : ℕ} (n : ℕ) (is : Bool) → NoneFreeBelow quotas taken lowest → InShare quotas row page → page < length taken → share_start quotas row ≤ n
    → ((q : ℕ) → InShare quotas row q → q < n → (if q == page then is else taken_of taken q) ≡ true)
    → NoneFreeBelow quotas (slice_set taken page is) (slice_set lowest row n)
below-set {quotas} {lowest} {taken} {row} {page} n is old inside small from right =
    record {
      rows = length-set lowest row n ∙ old.rows;
      from = λ r below. grind (arith, nat_tests, get_or-set_same lowest row n 0, get_or-set_other lowest row r n 0, old.from r below, old.rows, inside.partition, from);
      below = λ r q in_share under. grind (arith, nat_tests, mark-set taken page q is small, get_or-set_same lowest row n 0, get_or-set_other lowest row r n 0, share_unique quotas r row q in_share, old.below r q in_share, right q, old.rows, inside.partition);
    }

-- ---- the pages of a share that are free

-- at first all are
pub counts-new : (m : ManifestRows) → CountsFree (quotas_of m.partitions) (new_memory m).taken (quotas_of m.partitions)
counts-new m = grind (arith, common_steps, nat_tests, used_by-new)

-- a page of a row's share gets another mark, and the row another count, which is right
pub counts-set : {quotas free : List ℕ} {taken : List Bool} {row page : ℕ} (m : Pages) (n : ℕ) (is : Bool) → CountsFree quotas taken free → InShare quotas row page → page < length taken → m.quotas ≡ quotas → m.taken ≡ taken_of taken
    → n + used_by (with_mark page is m) row ≡ row_quota quotas row → CountsFree quotas (slice_set taken page is) (slice_set free row n)
counts-set {quotas} {free} {taken} {row} {page} m n is counts inside below same shown right = grind (arith, common_steps, nat_tests, length-set, taken_of-set, get_or-set_same, get_or-set_other, used_by-other)

-- ---- a valid manifest

-- its pages have numbers below 2 ^ 27
pub page_count-le : (m : ManifestRows) → IsTrue (is_valid m) → page_count (quotas_of m.partitions) ≤ 2 ^ 27
page_count-le m valid = grind (arith, nat_tests, valid)
