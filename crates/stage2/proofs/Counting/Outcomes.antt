-- What the pages of a chunk answer after an edit, told by the number of the runs' pages and by words.
use Rattle.std.proofs.Common.{◌≡◌, ℕ, ◌+◌, ◌*◌, ◌/◌, ◌%◌, ◌<◌, Bool, true, false, not, cond, List, Some, None, refl, sym, ap, ap₂, subst, ◌∙◌, arith}
use Rattle.stage2.proofs.Names.{nat_tests, common_steps, View, is_alike, PageRun, covers, Pool, words_of, leaf_level, leaf_word_of, ChunkEdit, edited, answers_at, IsOutcome, IsWordFor, IsSpelled, read_after, tells, pages_among, Next}
use Rattle.manifest.proofs.Tables.{alike-same, alike-refl}
use Rattle.pool.proofs.Count.{count_below-some, count_below-witness}
use Rattle.words.proofs.RoundTrip.{word-leaf}
use Rattle.stage2.specs.inner.Clauses.{IsStray}
use Rattle.stage2.proofs.Counting.Needs.{outcome-others, unlike-mixed}
use Rattle.stage2.proofs.Counting.Pieces.{page-among, pages_among-not}

-- one page in the runs, and one beside them that answers otherwise
outcome-stray : (runs : List PageRun) (access : View) (before : ℕ → View) (c x y : ℕ) → x / 512 ≡ c → covers runs x ≡ true → y / 512 ≡ c → covers runs y ≡ false → (before y ≡ access → ⊥)
    → IsOutcome c (edited runs access before) None
outcome-stray runs access before c x y at_x covered at_y out differ =
    record {
      same = λ one e. absurd cc;
      mixed = sym (unlike-mixed (edited runs access before) c y x at_y at_x (ap₂ is_alike (ap (λ b. cond b access (before y)) out) (ap (λ b. cond b access (before x)) covered) ∙ (grind (arith, common_steps, nat_tests, alike-same))));
    }

-- a level 3 word is told by its page and its answer
pub same-word : (n : ℕ) (answer : View) (a b : ℕ) → IsWordFor n answer a → IsWordFor n answer b → a ≡ b
same-word n None a b p q = p.zero refl ∙ sym (q.zero refl)
same-word n (Some access) a b p q =
    let x = word-leaf 3 a n access p.entry in
    let y = word-leaf 3 b n access q.entry in
    x.spelled ∙ ap (λ z. leaf_word_of z n access) (let same : x.block ≡ y.block = grind (arith, common_steps, nat_tests, x.at_level, y.at_level) in same) ∙ sym y.spelled

-- a page beside some that are fewer than 512
page-beside : (which : ℕ → Bool) → pages_among which < 512 → (i : ℕ) × (i < 512) × (which i ≡ false)
unfolding pages_among
page-beside which few = grind (arith, common_steps, nat_tests, count_below-witness (λ k. not (which k)) 512 (omega (arith, pages_among-not which, few)))

-- and none where they are all
no-other : (which : ℕ → Bool) (i : ℕ) → i < 512 → pages_among which ≡ 512 → which i ≡ false → ⊥
unfolding pages_among
no-other which i lt all out =
    omega (arith, pages_among-not which, count_below-some (λ k. not (which k)) 512 i lt (ap not out), all)

module _ (e : ChunkEdit) where
  -- a page of the runs
  pub one : (i : ℕ) × (i < 512) × (covers e.runs (512 * e.chunk + i) ≡ true)
  one = page-among (λ i. covers e.runs (512 * e.chunk + i)) (let pages = e.pages in let some = e.touched in omega (arith, pages, some))

  -- runs that have all pages of the chunk
  pub told-filled : (before : ℕ → View) → e.pieces.pages ≡ 512 → IsOutcome e.chunk (edited e.runs e.access before) (Some e.access)
  told-filled before all = outcome-others e.runs e.access before e.chunk (λ n at out.
      let page : 512 * e.chunk + n % 512 ≡ n = omega (arith, at) in
      absurd (no-other (λ i. covers e.runs (512 * e.chunk + i)) (n % 512) (omega arith) (sym e.pages ∙ all) (ap (covers e.runs) page ∙ out)))

  -- pages that answered all the same before
  pub told-block : (before : ℕ → View) (one_answer : View) (b : Bool) → b ≡ is_alike one_answer e.access → ((n : ℕ) → n / 512 ≡ e.chunk → before n ≡ one_answer) → (e.pieces.pages ≡ 512 → ⊥)
      → IsOutcome e.chunk (edited e.runs e.access before) (tells b e.access)
  told-block before one_answer true is same few = outcome-others e.runs e.access before e.chunk (λ n at out. same n at ∙ alike-same one_answer e.access (sym is))
  told-block before one_answer false is same few =
      let y = page-beside (λ i. covers e.runs (512 * e.chunk + i)) (let pages = e.pages in let most = e.most in omega (arith, pages, most, few)) in
      let at : (512 * e.chunk + y.0) / 512 ≡ e.chunk = omega (arith, y.1) in
      outcome-stray e.runs e.access before e.chunk (512 * e.chunk + one.0) (512 * e.chunk + y.0) (omega (arith, one.1)) one.2 at y.2
      (λ alike. let is_one : one_answer ≡ e.access = sym (same (512 * e.chunk + y.0) at) ∙ alike in
      let bad : false ≡ true = is ∙ ap (λ a. is_alike a e.access) is_one ∙ alike-refl e.access in cc)

  -- a page beside the runs whose word is not that of their answer
  pub stray-mixed : (k : ℕ) (pool : Pool) → IsSpelled e k pool → IsStray k e pool → IsOutcome e.chunk (read_after e (Next k) pool) None
  stray-mixed k pool spelled stray =
      let small = stray.small in
      let y = 512 * e.chunk + stray.index in
      let index : y % 512 ≡ stray.index = omega (arith, small) in
      let at : y / 512 ≡ e.chunk = omega (arith, small) in
      let before : ℕ → View = answers_at e.layout.now (words_of pool.memory.words) (Next k) in
      outcome-stray e.runs e.access before e.chunk (512 * e.chunk + one.0) y (omega (arith, one.1)) one.2 at stray.out
      (λ alike. stray.other (subst (λ a. IsWordFor y a (words_of pool.memory.words k stray.index)) alike (subst (λ x. IsWordFor y (before y) (words_of pool.memory.words k x)) index (spelled y at))))
