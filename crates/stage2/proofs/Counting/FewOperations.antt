-- An edit whose pages lie in one chunk, and which writes no words of level 3 but theirs.
use Rattle.stage2.proofs.Names.{common_steps, View, is_mixed, is_alike, nat_tests, PageRun, in_run, covers, Pages, nonzero_in, edited, answers_at, answers_of, entry_in, block_answer, is_between, answer_of, part_in, part_count, pages_among, pages_in, reached_in, table_operations, chunk_operations, gigabyte_operations, row_operations, Layout, Slot, Next, Bad, next_page, entry_of, cases_lt}
use Rattle.std.proofs.Common.{ltb, max, min, ◌≡◌, ◌≢◌, ℕ, ◌+◌, ◌-◌, ◌*◌, ◌/◌, ◌%◌, ◌<◌, ◌≤◌, Bool, true, false, cond, is_some, List, [], ◌∷◌, length, Option, Some, None, refl, sym, ap, ap₂, ◌∙◌, arith}
use Rattle.pool.proofs.Count.{count_below-some}
use Rattle.stage2.proofs.Counting.Bounds.{count-within}
use Rattle.stage2.proofs.Counting.Growth.{IsRead, view-same, view-spelled}
use Rattle.stage2.proofs.Counting.Needs.{mixed-none, unlike-mixed}
use Rattle.stage2.proofs.Counting.Operations.{table-either, table-words, reached-as, plain-answer}
use Rattle.stage2.proofs.Counting.Pieces.{count_below-fewer, page-among, pages_among-same, pages_among-between, zero-beside}
use Rattle.stage2.proofs.Runs.ChunkCounts.{nowhere, with-pages, without-pages, operations-nothing}
use Rattle.stage2.proofs.Runs.Spans.{sum_below-alone}
use Rattle.stage2.proofs.Tree.KnownWords.{second-known}
use Rattle.stage2.proofs.Walkers.Level3Write.{at_3-word}
use Rattle.words.proofs.RoundTrip.{entry-zero}

-- ---- how many pages and pieces runs have in a chunk

pub run-pages : (run : PageRun) (c : ℕ) → pages_among (λ i. in_run run (512 * c + i)) ≤ run.count
unfolding pages_among
run-pages run c =
    let few = count-within (λ i. in_run run (512 * c + i)) (run.first - 512 * c) (run.first + run.count - 512 * c) 512 (λ i lt here.
    let low : run.first ≤ 512 * c + i = grind (arith, nat_tests, here) in
    let high : 512 * c + i < run.first + run.count = grind (arith, nat_tests, here) in
    (omega (arith, low), omega (arith, high))) in
    omega (arith, few)

-- a run that has a page, and all of its pages in one chunk
module _ (run : PageRun) (c : ℕ) (some : (n : ℕ) × (covers (run ∷ []) n ≡ true)) (only : (n : ℕ) → covers (run ∷ []) n ≡ true → n / 512 ≡ c) where
  counted : 0 < run.count
  counted = let here = some.1 in grind (arith, nat_tests, here)

  there : (n : ℕ) → run.first ≤ n → n < run.first + run.count → n / 512 ≡ c
  there n low high = only n (grind (arith, nat_tests, low, high))

  low : 512 * c ≤ run.first
  low = let here = there run.first (omega arith) (omega (arith, counted)) in omega (arith, here)

  high : run.first + run.count ≤ 512 * c + 512
  high = let here = there (run.first + run.count - 1) (omega (arith, counted)) (omega (arith, counted)) in omega (arith, here, counted)

  pub run-all : pages_in (run ∷ []) c ≡ run.count
  run-all =
      let from = run.first - 512 * c in
      pages_among-same (is_between from (from + run.count)) (λ i. covers (run ∷ []) (512 * c + i)) (λ i lt. grind (arith, nat_tests, low))
      ∙ pages_among-between from (from + run.count) (omega arith) (omega (arith, low, high)) ∙ omega arith

  pub run-whole : part_count c (run ∷ []) ≡ 1
  unfolding part_in
  run-whole = let lt : ltb (max run.first (512 * c)) (min (run.first + run.count) (512 * c + 512)) ≡ true = grind (arith, nat_tests, low, high, counted) in rw lt refl

-- runs that have a page in a chunk
pub page-counted : (runs : List PageRun) (c n : ℕ) → covers runs n ≡ true → n / 512 ≡ c → 0 < pages_in runs c
unfolding pages_among
page-counted runs c n covered here =
    let at : 512 * c + n % 512 ≡ n = omega (arith, here) in
    count_below-some (λ i. covers runs (512 * c + i)) 512 (n % 512) (omega arith) (ap (covers runs) at ∙ covered)

parts-few : (c : ℕ) (runs : List PageRun) → part_count c runs ≤ length runs
parts-few c [] = omega arith
parts-few c (run ∷ runs) = grind (arith, common_steps, nat_tests, parts-few c runs)

-- ---- runs that have pages in one chunk alone

module _ (runs : List PageRun) (access : View) (v : ℕ → View) (c : ℕ) (below : c < 262144) (only : (x : ℕ) → covers runs x ≡ true → x / 512 ≡ c) where
  apart : (x : ℕ) → (x / 512 ≡ c → ⊥) → covers runs x ≡ false
  apart x differs = grind (arith, common_steps, nat_tests)

  alone : row_operations runs access v ≤ 2 + chunk_operations runs access v c
  alone =
      let g = c / 512 in
      let i = c % 512 in
      let at : 512 * g + i ≡ c = omega arith in
      let chunks = sum_below-alone (λ x. chunk_operations runs access v (512 * g + x)) 512 i (omega arith)
      (λ k lt differs. ap (λ t. cond t (3 + table_operations runs access v (512 * g + k)) 0) (nowhere runs (512 * g + k) (λ x there. apart x (λ e. differs (omega (arith, e, there, at)))))) in
      let rows = sum_below-alone (gigabyte_operations runs access v) 512 g (omega (arith, below)) (λ k lt differs. operations-nothing runs access v k (λ x there. apart x (λ e. differs (omega (arith, e, there, at))))) in
      omega (arith, chunks, ap (chunk_operations runs access v) at, rows)

  -- all pages of a chunk without a table
  pub few-filled : chunk_operations runs access v c ≡ 3 → row_operations runs access v ≤ 5
  few-filled three = let all = alone in omega (arith, all, three)

  module _ (n : ℕ) (enough : pages_in runs c + length runs ≤ n) where
    few : (0 < pages_in runs c → table_operations runs access v c ≤ n) → row_operations runs access v ≤ n + 5
    few most = grind (arith, common_steps, nat_tests, alone, cases_lt, with-pages, without-pages)

    -- unmapped, in a table
    pub few-unmapped : is_mixed v c ≡ true → is_some access ≡ false → row_operations runs access v ≤ n + 5
    few-unmapped was unmaps = grind (arith, common_steps, nat_tests, few, page-among, table-either, parts-few)

    -- mapped, in a table of so many words
    pub few-either : is_mixed v c ≡ true → is_some access ≡ true → reached_in v c ≤ n → row_operations runs access v ≤ n + 5
    few-either was maps most = grind (arith, common_steps, nat_tests, few, page-among, table-either)

    -- mapped, in a table in which another page is not
    pub few-mapped : is_mixed v c ≡ true → is_some access ≡ true → (y : ℕ) × (y < 512) × (covers runs (512 * c + y) ≡ false) × (v (512 * c + y) ≡ None) → row_operations runs access v ≤ n + 5
    few-mapped was maps other = few (λ some.
        let page = page-among (λ i. covers runs (512 * c + i)) some in
        let x = 512 * c + page.0 in
        let y = 512 * c + other.0 in
        let within : edited runs access v x ≡ access = ap (λ b. cond b access (v x)) page.2 in
        let beside : edited runs access v y ≡ None = ap (λ b. cond b access (v y)) other.2 ∙ other.3 in
        let now = unlike-mixed (edited runs access v) c x y (omega (arith, page.1)) (omega (arith, other.1)) (ap₂ is_alike within beside ∙ (grind (arith, common_steps, nat_tests, maps))) in
        let table : table_operations runs access v c ≡ pages_in runs c + cond (is_some access) 0 (part_count c runs) = rw (now, was) refl in
        omega (arith, table ∙ ap (λ b. pages_in runs c + cond b 0 (part_count c runs)) maps, enough))

    -- in a chunk none of whose pages is reached
    pub few-hung : ((i : ℕ) → i < 512 → v (512 * c + i) ≡ None) → row_operations runs access v ≤ n + 5
    unfolding pages_among
    few-hung none = grind (arith, common_steps, nat_tests, few, mixed-none, count_below-fewer)

-- ---- what a chunk's word tells

-- the chunk's word has a form of its level
pub entry-known : {layout : Layout} {m : Pages} {c : ℕ} (row second : Option ℕ) → IsRead layout m row second c → entry_in layout m.words second (c % 512) ≢ Bad
entry-known row None h bad = absurd (cc)
entry-known None (Some j) h bad = let e = h.hangs in absurd (cc)
entry-known {layout} {m} {c} (Some r) (Some j) h bad = let below = h.below in second-known layout m h.canonical.orderly r (c / 512) (c % 512) j (h.inside r refl) (omega (arith, below)) (omega arith) h.hangs bad

module _ {layout : Layout} {m : Pages} {row second : Option ℕ} {c : ℕ} (h : IsRead layout m row second c) where
  abbrev entry : Slot
  entry = entry_in layout m.words second (c % 512)

  abbrev before : ℕ → View
  before = answers_of layout m.words row

  pub entry-plain : next_page entry ≡ None → block_answer entry ≡ None → (i : ℕ) → i < 512 → before (512 * c + i) ≡ None
  entry-plain none free i lt = sym (view-same h i lt) ∙ plain-answer layout m.words entry (512 * c + i) none ∙ free

  pub entry-beside : (k : ℕ) → entry ≡ Next k → (which : ℕ → Bool) → nonzero_in m.words k + pages_among which < 512 → (i : ℕ) × (i < 512) × (which i ≡ false) × (before (512 * c + i) ≡ None)
  entry-beside k next which few =
      let zero = zero-beside m.words k which few in
      let lt = zero.1 in
      let n = 512 * c + zero.0 in
      let index : n % 512 ≡ zero.0 = omega (arith, lt) in
      let word : m.words k (n % 512) ≡ 0 = ap (m.words k) index ∙ zero.3 in
      (zero.0, lt, zero.2, sym (view-same h zero.0 lt) ∙ ap (λ (s : Slot). answers_at layout m.words s n) next ∙ ap answer_of (at_3-word layout n (m.words k (n % 512)) None (ap (entry_of 3) word ∙ entry-zero 3)))

  pub entry-words : (k : ℕ) → entry ≡ Next k → nonzero_in m.words k ≡ reached_in before c
  entry-words k next =
      table-words layout m.words c k (λ n there none. (view-spelled h k next n there).zero none)
      ∙ reached-as before (answers_at layout m.words (Next k)) c (λ i lt. ap (λ (s : Slot). answers_at layout m.words s (512 * c + i)) (sym next) ∙ view-same h i lt)
