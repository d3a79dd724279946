-- An edit takes a level 3 table in chunks alone that have none, and a level 2 table in gigabytes that have none.
use Rattle.std.proofs.Common.{◌≡◌, ◌%◌, ℕ, ◌+◌, ◌*◌, ◌<◌, ◌≤◌, ◌&&◌, true, not, cond, is_some, is_none, List, Option, Some, None, length, refl, ap, ◌∙◌, arith}
use Rattle.stage2.proofs.Names.{common_steps, nat_tests, View, count_below, is_mixed, PageRun, Pool, pages_of, edited, touches_chunk, IsCanonical, Layout, next_page, second_of, entry_in, is_between, points_at, view_in, grows_at, gigabyte_growth, eqb-true}
use Rattle.stage2.specs.inner.Clauses.{second_in}
use Rattle.stage2.proofs.Counting.Growth.{grows-nothing, reached-second, read-at, entry-mixed}
use Rattle.stage2.proofs.Counting.Pieces.{count_below-fewer}
use Rattle.stage2.proofs.Editing.ChunkByChunk.{untouched}
use Rattle.stage2.proofs.Runs.Spans.{Between}
use Rattle.stage2.proofs.Tree.EntryWords.{points-table}

-- a chunk whose word points at a table has one
table-there : (layout : Layout) (pool : Pool) (canonical : IsCanonical layout (pages_of pool.memory)) (g : ℕ) → g < 512 → (row : Option ℕ) → ((r : ℕ) → row ≡ Some r → r < length layout.ids) → (second : Option ℕ) (x : ℕ) → x < 512
    → second_of layout (pages_of pool.memory).words row g ≡ second → points_at second x pool ≡ true → is_some (next_page (entry_in layout (pages_of pool.memory).words second x)) ≡ true
table-there layout pool canonical g below row inside None x small is points = absurd (cc)
table-there layout pool canonical g below None inside (Some j) x small is points = absurd (cc)
table-there layout pool canonical g below (Some r) inside (Some j) x small is points =
    points-table layout (pages_of pool.memory) canonical.orderly r g x j (inside r refl) below small is (eqb-true _ _ points)

module _ (layout : Layout) (pool : Pool) (canonical : IsCanonical layout (pages_of pool.memory)) (row : Option ℕ) (inside : (r : ℕ) → row ≡ Some r → r < length layout.ids) (g : ℕ) (below : g < 512) (second : Option ℕ) (is : second_in layout row g pool ≡ second) where
  abbrev before : ℕ → View
  before = view_in layout row pool

  points-mixed : (x : ℕ) → x < 512 → points_at second x pool ≡ true → is_mixed before (512 * g + x) ≡ true
  points-mixed x small points =
      let index : (512 * g + x) % 512 ≡ x = omega (arith, small) in
      entry-mixed row second (read-at canonical inside g x below small is) ∙ ap (λ i. is_some (next_page (entry_in layout (pages_of pool.memory).words second i))) index ∙ table-there layout pool canonical g below row inside second x small is points

  module _ (runs : List PageRun) (access : View) (first end : ℕ) (within : (x : ℕ) → x < 512 → touches_chunk (512 * g + x) runs ≡ true → Between first end x) where
    -- a chunk that takes one is among these, and points at none
    taken-among : (x : ℕ) → x < 512 → grows_at before (edited runs access before) (512 * g + x) ≡ true → (is_between first end x && not (points_at second x pool)) ≡ true
    taken-among x small grows = grind (arith, common_steps, nat_tests, grows-nothing, untouched, points-mixed)

    pub growth-untabled : (chunks : ℕ) → count_below (λ x. is_between first end x && not (points_at second x pool)) 512 ≤ chunks → gigabyte_growth before (edited runs access before) g ≤ chunks + cond (is_none second) 1 0
    growth-untabled chunks most = grind (arith, common_steps, nat_tests, reached-second, count_below-fewer, taken-among)
