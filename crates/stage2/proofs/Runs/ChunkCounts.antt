-- How many chunks runs touch, and how many operations their edit takes at most, whatever the tables are.
use Rattle.stage2.proofs.Names.{common_steps, option_map_or, nat_tests, PageRun, covers, are_normal, rise_above, part_in, part_count, lie_within, touches_chunk, sum_below, pages_among, pages_in, chunk_operations, chunks_operations, gigabyte_operations, row_operations, Touches, View, index_from, words_in, is_between, cases_Bool, cases_eq, ltb-true, and_parts}
use Rattle.std.proofs.Common.{◌≡◌, ℕ, zero, suc, ◌+◌, ◌-◌, ◌*◌, ◌/◌, ◌%◌, ◌<◌, ◌≤◌, min, true, false, cond, ltb, List, [], ◌∷◌, ap, subst, ◌∙◌, arith, add-one, inl, inr}
use Rattle.std.proofs.lemmas.List.Sums.{sum_by-cons}
use Rattle.stage2.proofs.Counting.Pieces.{pages_among-le, page-among, words-pages}
use Rattle.pool.proofs.Count.{count_below-some}
use Rattle.stage2.proofs.Editing.ChunkByChunk.{sum_below-more, sum_below-add}
use Rattle.stage2.proofs.Counting.Needs.{covered-touched}
use Rattle.stage2.proofs.Runs.Normal.{end_of, any-within}
use Rattle.stage2.proofs.Runs.Spans.{sum_below-none}
use Rattle.stage2.proofs.Walkers.SteadyPages.{covered-page}

-- ---- sums

pub sum_below-le : (f g : ℕ → ℕ) (n : ℕ) → ((k : ℕ) → f k ≤ g k) → sum_below f n ≤ sum_below g n
unfolding sum_below
sum_below-le f g zero le = omega arith
sum_below-le f g (suc n) le = let rest = sum_below-le f g n le in let here = le n in omega (arith, rest, here)

-- ---- pages and pieces of runs

-- what is known of the runs behind one, and that one: a page lies between them
parts-with : (c : ℕ) (run : PageRun) (low rest : ℕ) → low ≤ run.first - 512 * c → low ≤ 513 → rest + min (run.first + run.count + 1 - 512 * c) 513 ≤ 513
    → (index_from (512 * c) (run.first + run.count) - index_from (512 * c) run.first) + option_map_or (λ (part : PageRun). 1) (part_in c run) 0 + rest + low ≤ 513
unfolding part_in
parts-with c run low rest behind most so = grind (arith, common_steps, nat_tests)

-- runs that rise above a page
parts-behind : (c e : ℕ) (runs : List PageRun) → rise_above e runs ≡ true → words_in (512 * c) runs + part_count c runs + min (e + 1 - 512 * c) 513 ≤ 513
parts-behind c e [] rises = omega arith
parts-behind c e (run ∷ runs) rises =
    let parts = and_parts (ltb e run.first) (rise_above (end_of run) runs) rises in
    let all = parts-with c run (min (e + 1 - 512 * c) 513) (words_in (512 * c) runs + part_count c runs) (omega (arith, ltb-true _ _ parts.0)) (omega arith) (parts-behind c (end_of run) runs parts.1) in
    rw (sum_by-cons (λ (r : PageRun). option_map_or (λ (part : PageRun). 1) (part_in c r) 0) run runs) (omega (arith, all))

-- their pages in a chunk and their pieces there are no more than the pages of a chunk, and one
pieces-most : (c : ℕ) (runs : List PageRun) → are_normal runs ≡ true → pages_in runs c + part_count c runs ≤ 513
pieces-most c [] normal = let none = words-pages c [] normal in omega (arith, none)
pieces-most c (run ∷ runs) normal =
    let all = parts-with c run 0 (words_in (512 * c) runs + part_count c runs) (omega arith) (omega arith) (parts-behind c (end_of run) runs normal) in
    rw (sum_by-cons (λ (r : PageRun). option_map_or (λ (part : PageRun). 1) (part_in c r) 0) run runs) (omega (arith, all, words-pages c (run ∷ runs) normal))

-- ---- the operations that the edit of a chunk takes at most

-- of a chunk that the runs touch
touched : List PageRun → ℕ → ℕ
touched runs c = cond (touches_chunk c runs) 1 0

chunk_most : List PageRun → ℕ → ℕ
chunk_most runs c = 516 * touched runs c

chunk-within : (runs : List PageRun) (access : View) (v : ℕ → View) (c : ℕ) → are_normal runs ≡ true → chunk_operations runs access v c ≤ chunk_most runs c
unfolding chunk_most touched
chunk-within runs access v c normal = grind (arith, common_steps, nat_tests, pieces-most, pages_among-le)

scaled : (k : ℕ) (f : ℕ → ℕ) (n : ℕ) → sum_below (λ c. k * f c) n ≡ k * sum_below f n
unfolding sum_below
scaled k f zero = omega arith
scaled k f (suc n) = let rest = scaled k f n in omega (arith, rest)

-- ---- gigabyte by gigabyte

-- what is counted where one of some numbers is not 0 is counted with one of them
few : (f h : ℕ → ℕ) (n : ℕ) → ((k : ℕ) → min 2 (f k) ≤ h k) → min 2 (sum_below f n) ≤ sum_below h n
unfolding sum_below
few f h zero le = omega arith
few f h (suc n) le = let rest = few f h n le in let here = le n in omega (arith, rest, here)

of_gigabyte : (ℕ → ℕ) → ℕ → ℕ
of_gigabyte f x = let s = sum_below (λ y. f (512 * x + y)) 512 in s + min 2 s

rows-step : (f h : ℕ → ℕ) (g : ℕ) → ((k : ℕ) → min 2 (f k) ≤ h k) → sum_below (of_gigabyte f) g ≤ sum_below f (512 * g) + sum_below h (512 * g)
    → sum_below (of_gigabyte f) (g + 1) ≤ sum_below f (512 * (g + 1)) + sum_below h (512 * (g + 1))
unfolding of_gigabyte
rows-step f h g le rest =
    let e : 512 * (g + 1) ≡ 512 * g + 512 = omega arith in
    let all : sum_below f (512 * (g + 1)) ≡ sum_below f (512 * g) + sum_below (λ y. f (512 * g + y)) 512 = ap (sum_below f) e ∙ sum_below-add f (512 * g) 512 in
    let others : sum_below h (512 * (g + 1)) ≡ sum_below h (512 * g) + sum_below (λ y. h (512 * g + y)) 512 = ap (sum_below h) e ∙ sum_below-add h (512 * g) 512 in
    omega (arith, sum_below-more (of_gigabyte f) g, few (λ y. f (512 * g + y)) (λ y. h (512 * g + y)) 512 (λ y. le (512 * g + y)), rest, all, others)

rows : (f h : ℕ → ℕ) (g : ℕ) → ((k : ℕ) → min 2 (f k) ≤ h k) → sum_below (of_gigabyte f) g ≤ sum_below f (512 * g) + sum_below h (512 * g)
unfolding sum_below
rows f h zero le = omega arith
rows f h (suc g) le = subst (λ n. sum_below (of_gigabyte f) n ≤ sum_below f (512 * n) + sum_below h (512 * n)) (add-one g) (rows-step f h g le (rows f h g le))

two : (runs : List PageRun) (c : ℕ) → min 2 (chunk_most runs c) ≤ 2 * touched runs c
unfolding chunk_most
two runs c = omega arith

-- ---- the chunks from the first that runs touch to the last

pub sum-between : (first end n : ℕ) → sum_below (λ c. cond (is_between first end c) 1 0) n ≤ min n end - first
unfolding sum_below
sum-between first end zero = omega arith
sum-between first end (suc n) = grind (arith, common_steps, nat_tests, sum-between first end n)

module _ (runs : List PageRun) (first end : ℕ) (within : lie_within first end runs ≡ true) where
  one-between : (c : ℕ) → touched runs c ≤ cond (is_between (first / 512) ((end + 511) / 512) c) 1 0
  unfolding touched
  one-between c = grind (arith, common_steps, nat_tests, touched, any-within)

  together : (n : ℕ) → sum_below (touched runs) n ≤ (end + 511) / 512 - first / 512
  together n =
      omega (arith, sum_below-le (touched runs) (λ c. cond (is_between (first / 512) ((end + 511) / 512) c) 1 0) n one-between, (sum-between (first / 512) ((end + 511) / 512) n))

  all-most : sum_below (of_gigabyte (chunk_most runs)) 512 ≤ 518 * ((end + 511) / 512 - first / 512)
  unfolding of_gigabyte chunk_most
  all-most = omega (arith, rows (chunk_most runs) (λ c. 2 * touched runs c) 512 (two runs), scaled 2 (touched runs) (512 * 512), scaled 516 (touched runs) (512 * 512), together (512 * 512))

  pub row-operations : (access : View) (v : ℕ → View) → are_normal runs ≡ true → row_operations runs access v ≤ 518 * ((end + 511) / 512 - first / 512)
  unfolding of_gigabyte
  row-operations access v normal =
      let each = sum_below-le (gigabyte_operations runs access v) (of_gigabyte (chunk_most runs)) 512
      (λ g. let le = (sum_below-le (λ x. chunk_operations runs access v (512 * g + x)) (λ x. chunk_most runs (512 * g + x)) 512 (λ x. chunk-within runs access v (512 * g + x) normal)) in omega (arith, le)) in
      omega (arith, all-most, each)

-- ---- a gigabyte that the runs touch

pub member : (f : ℕ → ℕ) (n x : ℕ) → x < n → f x ≤ sum_below f n
unfolding sum_below
member f zero x lt = absurd (omega (arith, lt))
member f (suc n) x lt = elim (cases_eq x n) [
  | inl is ↦ rw is (omega arith)
  | inr differs ↦ let rest = member f n x (omega (arith, lt, differs)) in omega (arith, rest)
]

pub touched-operations : (runs : List PageRun) (access : View) (v : ℕ → View) (g : ℕ) → Touches runs g → 2 ≤ chunks_operations runs access v g
touched-operations runs access v g h =
    let n = h.page in
    let x = n / 512 % 512 in
    let at : n / 512 ≡ 512 * g + x = omega (arith, h.here) in
    let here : 3 ≤ chunk_operations runs access v (512 * g + x) = rw (subst (λ c. touches_chunk c runs ≡ true) at (covered-touched runs n h.covered)) (omega arith) in
    omega (arith, here, member (λ y. chunk_operations runs access v (512 * g + y)) 512 x (omega arith))

-- runs without a page of a chunk don't touch it
pub nowhere : (runs : List PageRun) (c : ℕ) → ((n : ℕ) → n / 512 ≡ c → covers runs n ≡ false) → touches_chunk c runs ≡ false
nowhere runs c none = grind (arith, common_steps, nat_tests, covered-page)

-- which their pages there tell
pub without-pages : (runs : List PageRun) (c : ℕ) → pages_in runs c ≡ 0 → touches_chunk c runs ≡ false
unfolding pages_among
without-pages runs c none = nowhere runs c (λ n at.
    let page : 512 * c + n % 512 ≡ n = omega (arith, at) in
    elim (cases_Bool (covers runs n)) [
      | inl t ↦ let some = count_below-some (λ i. covers runs (512 * c + i)) 512 (n % 512) (omega arith) (ap (covers runs) page ∙ t) in absurd (omega (arith, some, none))
      | inr f ↦ f
    ])

pub with-pages : (runs : List PageRun) (c : ℕ) → 0 < pages_in runs c → touches_chunk c runs ≡ true
with-pages runs c some =
    let page = page-among (λ i. covers runs (512 * c + i)) some in
    let at : (512 * c + page.0) / 512 ≡ c = omega (arith, page.1) in
    subst (λ x. touches_chunk x runs ≡ true) at (covered-touched runs (512 * c + page.0) page.2)

-- a gigabyte that they leave alone takes none
pub operations-nothing : (runs : List PageRun) (access : View) (v : ℕ → View) (g : ℕ) → ((n : ℕ) → n / 512 / 512 ≡ g → covers runs n ≡ false) → gigabyte_operations runs access v g ≡ 0
operations-nothing runs access v g none = grind (arith, common_steps, nat_tests, sum_below-none, nowhere)
