-- An edit takes no more tables than there are chunks and gigabytes from the first that its runs touch to the last.
use Rattle.stage2.proofs.Names.{common_steps, nat_tests, View, count_below, grow, PageRun, covers, edited, lie_within, is_between, cases_lt, ◌*◌, ◌≡◌, ℕ, ◌+◌, ◌-◌, ◌/◌, ◌<◌, ◌≤◌, Bool, true, List, arith}
use Rattle.stage2.proofs.Counting.Growth.{grows-nothing}
use Rattle.stage2.proofs.Runs.Normal.{any-within}
use Rattle.stage2.proofs.Counting.Needs.{reached-same}
use Rattle.stage2.proofs.Counting.Pieces.{count_below-fewer}
use Rattle.stage2.proofs.Editing.ChunkByChunk.{count-sum}
use Rattle.stage2.proofs.Runs.ChunkCounts.{sum-between}

-- ---- counts of numbers between two others

pub count-within : (f : ℕ → Bool) (low high n : ℕ) → ((x : ℕ) → x < n → f x ≡ true → (low ≤ x) × (x < high)) → count_below f n ≤ high - low
count-within f low high n within =
    let fewer = count_below-fewer f (is_between low high) n (λ x lt is. grind (arith, nat_tests, within x lt is)) in
    omega (arith, fewer, count-sum (is_between low high) n, sum-between low high n)

-- ---- what the runs touch

module _ (runs : List PageRun) (access : View) (v : ℕ → View) (first end : ℕ) (within : lie_within first end runs ≡ true) where
  pub between : (n : ℕ) → covers runs n ≡ true → (first ≤ n) × (n < end)
  between n covered = grind (arith, common_steps, nat_tests, any-within)

  pub grow-most : grow v (edited runs access v) ≤ ((end + 262143) / 512 / 512 - first / 512 / 512) + ((end + 511) / 512 - first / 512)
  unfolding grow
  grow-most = grind (arith, common_steps, nat_tests, count-within, cases_lt, grows-nothing, between, cases_lt, reached-same, between)

-- pages between the first and the end of a chunk are its
pub in-chunk : (runs : List PageRun) (first end c : ℕ) → lie_within first end runs ≡ true → c ≡ first / 512 → end ≤ 512 * c + 512 → (x : ℕ) → covers runs x ≡ true → x / 512 ≡ c
in-chunk runs first end c within is last x covered = grind (arith, common_steps, nat_tests, between)
