-- Rows and their shares, and how many pages of a share are taken.
use Rattle.std.proofs.Common.{◌≡◌, ◌≢◌, ◌==◌, ℕ, ◌+◌, ◌-◌, ◌<◌, ◌≤◌, List, length, arith, Bool, true, false}
use Rattle.pool.proofs.Names.{common_steps, nat_tests, ManifestRows, row_of, page_count, Pages, InShare, share_start, row_quota, pages_of, taken_of, mark, with_mark, used_by, new_memory}
use Rattle.std.proofs.lemmas.List.{get_or_past}
use Rattle.std.proofs.lemmas.List.Sums.{sum_by-append, sum_by_more, passes_at_first}
use Rattle.std.proofs.Math.Seq.{take-add}
use Rattle.pool.proofs.Words.{mark-other}
use Rattle.pool.proofs.Count.{count_below-same, count_below-one, count_below-none, count_below-le}

-- ---- rows

-- two partitions of one row are one
pub row_of-injective : (ids : List ℕ) (p q : ℕ) → row_of ids p ≡ row_of ids q → row_of ids p < length ids → p ≡ q
row_of-injective ids p q same below = grind (arith, common_steps, nat_tests, passes_at_first (λ id. id == p) ids 0, passes_at_first (λ id. id == q) ids 0)

-- past the last row there is no quota
pub row_quota-none : (quotas : List ℕ) (row : ℕ) → length quotas ≤ row → row_quota quotas row ≡ 0
row_quota-none quotas row beyond = get_or_past quotas row 0 beyond

-- ---- shares

-- a share ends among the pages
pub share_end : (quotas : List ℕ) (row : ℕ) → row < length quotas → share_start quotas row + row_quota quotas row ≤ page_count quotas
share_end quotas row below = grind (arith, common_steps)

-- a share ends before a later one begins
pub share_start-rises : (quotas : List ℕ) (row later : ℕ) → row < later → later < length quotas → share_start quotas row + row_quota quotas row ≤ share_start quotas later
share_start-rises quotas row later before below = grind (arith, common_steps, sum_by_more (λ x. x) quotas row 0, take-add, sum_by-append)

-- a page of a share is below the number of pages
pub share_inside : (quotas : List ℕ) (row page : ℕ) → InShare quotas row page → page < page_count quotas
share_inside quotas row page inside = omega (arith, inside.to, share_end quotas row inside.partition)

-- roots stand in no share
pub root-outside : (quotas : List ℕ) (root row : ℕ) → root < length quotas → ¬ InShare quotas row root
root-outside quotas root row below inside = omega (arith, inside.from)

-- a page stands in one share at most
pub share_unique : (quotas : List ℕ) (row other page : ℕ) → InShare quotas row page → InShare quotas other page → row ≡ other
share_unique quotas row other page here there = grind (arith, nat_tests, share_start-rises)

-- a page at a place of a share
pub share_at : (quotas : List ℕ) (row k : ℕ) → k < row_quota quotas row → InShare quotas row (share_start quotas row + k)
share_at quotas row k below = grind (arith, nat_tests, row_quota-none quotas row)

-- ---- how many pages are taken

pub used_by-le : (m : Pages) (row : ℕ) → used_by m row ≤ row_quota m.quotas row
used_by-le m row = count_below-le (λ k. m.taken (share_start m.quotas row + k)) (row_quota m.quotas row)

-- a page that is taken counts for its row
pub used_by-take : (m : Pages) (row k : ℕ) → InShare m.quotas row k → m.taken k ≡ false → used_by (with_mark k true m) row ≡ used_by m row + 1
unfolding mark
used_by-take m row k inside free = grind (arith, common_steps, nat_tests, count_below-one (λ i. m.taken (share_start m.quotas row + i)) (λ i. mark k true m.taken (share_start m.quotas row + i)) (row_quota m.quotas row) (k - share_start m.quotas row))

-- a page that is given back counts no more
pub used_by-give : (m : Pages) (row k : ℕ) → InShare m.quotas row k → m.taken k ≡ true → used_by (with_mark k false m) row + 1 ≡ used_by m row
unfolding mark
used_by-give m row k inside held = grind (arith, common_steps, nat_tests, count_below-one (λ i. mark k false m.taken (share_start m.quotas row + i)) (λ i. m.taken (share_start m.quotas row + i)) (row_quota m.quotas row) (k - share_start m.quotas row))

-- the other rows keep what they have
pub used_by-other : (m : Pages) (row other k : ℕ) (is : Bool) → InShare m.quotas row k → other ≢ row → used_by (with_mark k is m) other ≡ used_by m other
used_by-other m row other k is inside differs =
    count_below-same (λ i. m.taken (share_start m.quotas other + i)) (λ i. mark k is m.taken (share_start m.quotas other + i)) (row_quota m.quotas other) (λ i below. grind (arith, nat_tests, mark-other, share_unique m.quotas other row k, share_at m.quotas other i below))

-- at first no page of a share is taken
pub taken_of-new : (m : ManifestRows) (page : ℕ) → length m.partitions ≤ page → taken_of (new_memory m).taken page ≡ false
unfolding taken_of
taken_of-new m page beyond = grind (arith, common_steps)

pub used_by-new : (m : ManifestRows) (row : ℕ) → used_by (pages_of (new_memory m)) row ≡ 0
used_by-new m row = grind (arith, common_steps, nat_tests, count_below-none, taken_of-new)
