-- How many operations an edit makes: views that agree on a chunk make as many, and what each row of the edit order makes.
use Rattle.stage2.proofs.Names.{common_steps, nat_tests, View, is_mixed, PageRun, covers, Words, Pool, words_of, nonzero_in, edited, touches_chunk, answers_at, block_answer, IsOutcome, IsWordFor, OthersAnswer, sum_below, pages_among, pages_in, reached_in, table_operations, chunk_operations, chunks_operations, gigabyte_operations, part_count, answer_of, Layout, Slot, Next, next_page, entry_of, cases_Bool}
use Rattle.std.proofs.Common.{◌≡◌, ℕ, zero, suc, ◌+◌, ◌*◌, ◌/◌, ◌%◌, ◌<◌, ◌==◌, min, true, false, not, cond, is_some, List, Some, None, refl, sym, ap, ap₂, subst, ◌∙◌, arith, inl, inr, ◌⊎◌}
use Rattle.pool.proofs.Count.{count_below-same}
use Rattle.stage2.proofs.Counting.Needs.{mixed-same, outcome-others, equal-first}
use Rattle.stage2.proofs.Counting.Pieces.{pages_among-same, pages_among-all, pages_among-not}
use Rattle.stage2.proofs.Walkers.Level3Write.{at_3-word}
use Rattle.words.proofs.RoundTrip.{entry-zero}

-- ---- views that agree on a chunk

pub reached-as : (v w : ℕ → View) (c : ℕ) → ((i : ℕ) → i < 512 → w (512 * c + i) ≡ v (512 * c + i)) → reached_in w c ≡ reached_in v c
reached-as v w c same = pages_among-same (λ i. is_some (v (512 * c + i))) (λ i. is_some (w (512 * c + i))) (λ i lt. ap (λ a. is_some a) (same i lt))

module _ (runs part : List PageRun) (access : View) (v w : ℕ → View) (c : ℕ) (covered : (n : ℕ) → n / 512 ≡ c → covers part n ≡ covers runs n) (count : part_count c part ≡ part_count c runs)
    (same : (i : ℕ) → i < 512 → w (512 * c + i) ≡ v (512 * c + i)) where
  there : (i : ℕ) → i < 512 → covers part (512 * c + i) ≡ covers runs (512 * c + i)
  there i lt = covered (512 * c + i) (omega (arith, lt))

  after-same : (i : ℕ) → i < 512 → edited part access w (512 * c + i) ≡ edited runs access v (512 * c + i)
  after-same i lt = ap₂ (λ b a. cond b access a) (there i lt) (same i lt)

  first-same : edited part access w (512 * c) ≡ edited runs access v (512 * c)
  first-same = let at : 512 * c + 0 ≡ 512 * c = omega arith in ap (edited part access w) (sym at) ∙ after-same 0 (omega arith) ∙ ap (edited runs access v) at

  pub table-same : table_operations part access w c ≡ table_operations runs access v c
  table-same =
      let was = mixed-same v w c same in
      let now = mixed-same (edited runs access v) (edited part access w) c after-same in
      let pages : pages_in part c ≡ pages_in runs c = pages_among-same (λ i. covers runs (512 * c + i)) (λ i. covers part (512 * c + i)) there in
      ap₂ (λ now was. cond now (cond was (pages_in part c + cond (is_some access) 0 (part_count c part)) (reached_in (edited part access w) c)) (cond was (cond (is_some (edited part access w (512 * c))) (reached_in w c) (pages_in part c)) 0)) now was
      ∙ ap₂ (λ kept hung. cond (is_mixed (edited runs access v) c) (cond (is_mixed v c) kept hung) (cond (is_mixed v c) (cond (is_some (edited part access w (512 * c))) (reached_in w c) (pages_in part c)) 0))
      (ap₂ (λ p k. p + cond (is_some access) 0 k) pages count) (reached-as (edited runs access v) (edited part access w) c after-same)
      ∙ ap (λ gone. cond (is_mixed (edited runs access v) c) (cond (is_mixed v c) (pages_in runs c + cond (is_some access) 0 (part_count c runs)) (reached_in (edited runs access v) c)) (cond (is_mixed v c) gone 0))
      (ap (λ b. cond b (reached_in w c) (pages_in part c)) (ap (λ a. is_some a) first-same) ∙ ap₂ (λ r p. cond (is_some (edited runs access v (512 * c))) r p) (reached-as v w c same) pages)

  pub chunk-same : touches_chunk c part ≡ touches_chunk c runs → chunk_operations part access w c ≡ chunk_operations runs access v c
  chunk-same touches = ap₂ (λ t k. cond t (3 + k) 0) touches table-same

-- ---- sums

pub sum-same : (f g : ℕ → ℕ) (n : ℕ) → ((k : ℕ) → k < n → g k ≡ f k) → sum_below g n ≡ sum_below f n
unfolding sum_below
sum-same f g zero same = refl
sum-same f g (suc n) same = ap₂ (λ a b. a + b) (same n (omega arith)) (sum-same f g n (λ k lt. same k (omega arith)))

-- views that agree on a gigabyte
pub chunks-same : (runs : List PageRun) (access : View) (v w : ℕ → View) (g : ℕ) → ((n : ℕ) → n / 512 / 512 ≡ g → w n ≡ v n) → chunks_operations runs access w g ≡ chunks_operations runs access v g
chunks-same runs access v w g same =
    sum-same (λ x. chunk_operations runs access v (512 * g + x)) (λ x. chunk_operations runs access w (512 * g + x)) 512
    (λ x lt. chunk-same runs runs access v w (512 * g + x) (λ n at. refl) refl (λ i small. same (512 * (512 * g + x) + i) (omega (arith, lt, small))) refl)

pub gigabyte-same : (runs : List PageRun) (access : View) (v w : ℕ → View) (g : ℕ) → ((n : ℕ) → n / 512 / 512 ≡ g → w n ≡ v n) → gigabyte_operations runs access w g ≡ gigabyte_operations runs access v g
gigabyte-same runs access v w g same = ap (λ x. x + min 2 x) (chunks-same runs access v w g same)

-- ---- the rows of the edit order

module _ (runs : List PageRun) (access : View) (v : ℕ → View) (c : ℕ) where
  -- a table stays
  pub kept : is_mixed v c ≡ true → IsOutcome c (edited runs access v) None → table_operations runs access v c ≡ pages_in runs c + cond (is_some access) 0 (part_count c runs)
  kept was outcome = let now : is_mixed (edited runs access v) c ≡ true = sym outcome.mixed in rw (now, was) refl

  -- a table is hung
  pub hung : is_mixed v c ≡ false → IsOutcome c (edited runs access v) None → table_operations runs access v c ≡ reached_in (edited runs access v) c
  hung was outcome = let now : is_mixed (edited runs access v) c ≡ true = sym outcome.mixed in rw (now, was) refl

  -- a table is given back
  pub dropped : (answer : View) → is_mixed v c ≡ true → IsOutcome c (edited runs access v) (Some answer) → table_operations runs access v c ≡ cond (is_some answer) (reached_in v c) (pages_in runs c)
  dropped answer was outcome = grind (arith, common_steps, nat_tests)

  -- there is none
  pub plain : (answer : View) → is_mixed v c ≡ false → IsOutcome c (edited runs access v) (Some answer) → table_operations runs access v c ≡ 0
  plain answer was outcome = let now : is_mixed (edited runs access v) c ≡ false = sym outcome.mixed in rw (now, was) refl

  -- a table that stays or goes
  pub table-either : (x : ℕ) → is_mixed v c ≡ true → x / 512 ≡ c → covers runs x ≡ true
      → (table_operations runs access v c ≡ pages_in runs c + cond (is_some access) 0 (part_count c runs)) ⊎ (table_operations runs access v c ≡ cond (is_some access) (reached_in v c) (pages_in runs c))
  table-either x was at in_it = grind (arith, common_steps, nat_tests, equal-first)

-- ---- the words of a new table

-- of a chunk all of whose pages were, the others
pub new-unmapped : (runs : List PageRun) (access before : View) (c : ℕ) → access ≡ None → is_some before ≡ true → reached_in (edited runs access (λ n. before)) c + pages_in runs c ≡ 512
new-unmapped runs access before c none was =
    ap (λ k. k + pages_in runs c) (pages_among-same (λ i. not (covers runs (512 * c + i))) (λ i. is_some (edited runs access (λ n. before) (512 * c + i)))
    (λ i lt. (grind (arith, common_steps, nat_tests))))
    ∙ pages_among-not (λ i. covers runs (512 * c + i))

-- all, where the others were reached otherwise
pub new-all : (runs : List PageRun) (access before : View) (c : ℕ) → is_some access ≡ true → is_some before ≡ true → reached_in (edited runs access (λ n. before)) c ≡ 512
new-all runs access before c maps was = grind (arith, common_steps, nat_tests, pages_among-all)

-- ---- the words of a table

-- as many are not 0 as pages are reached
pub table-words : (layout : Layout) (words : Words) (c k : ℕ) → ((n : ℕ) → n / 512 ≡ c → answers_at layout words (Next k) n ≡ None → words k (n % 512) ≡ 0) → nonzero_in words k ≡ reached_in (answers_at layout words (Next k)) c
unfolding nonzero_in pages_among
table-words layout words c k clean = count_below-same (λ i. is_some (answers_at layout words (Next k) (512 * c + i))) (λ i. not (words k i == 0)) 512 (λ i lt.
    let n = 512 * c + i in
    let index : n % 512 ≡ i = omega (arith, lt) in
    let at : n / 512 ≡ c = omega (arith, lt) in
    elim (cases_Bool (words k i == 0)) [
      | inl empty ↦
          let word : words k (n % 512) ≡ 0 = ap (words k) index ∙ grind (arith, nat_tests, empty) in
          let none : answers_at layout words (Next k) n ≡ None = ap answer_of (at_3-word layout n (words k (n % 512)) None (ap (entry_of 3) word ∙ entry-zero 3)) in
          rw empty (ap (λ a. is_some a) (sym none))
      | inr other ↦ grind (arith, common_steps, nat_tests, other, index, clean n at)
    ])

-- ---- a chunk without a table

pub plain-answer : (layout : Layout) (words : Words) (s : Slot) (n : ℕ) → next_page s ≡ None → answers_at layout words s n ≡ block_answer s
plain-answer layout words s n none = grind (arith, common_steps, nat_tests)

-- ---- a chunk whose pages are all reached alike after the edit

-- where the words of all pages beside the runs are those of the runs' answer, all pages have it
pub others-alike : (layout : Layout) (pool : Pool) (runs : List PageRun) (access : View) (entry : Slot) (chunk k : ℕ) → entry ≡ Next k → OthersAnswer k chunk runs access pool
    → IsOutcome chunk (edited runs access (answers_at layout (words_of pool.memory.words) entry)) (Some access)
others-alike layout pool runs access entry chunk k is others =
    let words = words_of pool.memory.words in
    outcome-others runs access (answers_at layout words entry) chunk (λ n at out.
    let page : 512 * chunk + n % 512 ≡ n = omega (arith, at) in
    ap (λ (s : Slot). answers_at layout words s n) is
    ∙ ap answer_of (at_3-word layout n (words k (n % 512)) access (subst (λ x. IsWordFor x access (words k (n % 512))) page (others (n % 512) (omega arith) (ap (covers runs) page ∙ out))).entry)
    ∙ (grind (arith, common_steps, nat_tests)))

-- where that is none, and the words beside the runs are 0
pub emptied-alike : (layout : Layout) (pool : Pool) (runs : List PageRun) (access : View) (entry : Slot) (chunk k : ℕ) → entry ≡ Next k → access ≡ None
    → ((i : ℕ) → i < 512 → covers runs (512 * chunk + i) ≡ false → words_of pool.memory.words k i ≡ 0) → IsOutcome chunk (edited runs access (answers_at layout (words_of pool.memory.words) entry)) (Some access)
emptied-alike layout pool runs access entry chunk k is none zero_words =
    others-alike layout pool runs access entry chunk k is (λ i lt out. let word = zero_words i lt out in rw (word, none) (record { entry = entry-zero 3; zero = λ is. refl }))
