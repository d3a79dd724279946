-- One chunk of a gigabyte after another.
use Rattle.std.proofs.Common.{◌≡◌, ◌≢◌, ℕ, zero, suc, ◌+◌, ◌-◌, ◌*◌, ◌/◌, ◌^◌, ◌<◌, ◌≤◌, Bool, true, false, ◌&&◌, cond, eqb, ltb, is_some, List, length, refl, arith, ap, sym, subst, ◌∙◌, inl, inr, add-one}
use Rattle.stage2.proofs.Names.{nat_tests, PageRun, covers, View, Pages, used_by, row_quota, count_below, Walked, Layout, walk, walked, Gigabyte, Chunk, table_at, is_mixed, IsOrderly, answers, answer_of, linked, edited, touches_chunk, answers_in, Redoes, Redoes_in, IsSite, IsGrowing, sum_below, grows_at, IsUnderway, common_steps, cases_eq}
use Rattle.pool.proofs.Count.{count_below-same, count_below-at, count_below-more}
use Rattle.stage2.proofs.Counting.Needs.{mixed-same, covered-touched}
use Rattle.stage2.proofs.Editing.FourChunkEdits.{tidy-answer}
use Rattle.stage2.proofs.Editing.ChunkKeeps.{answer-walked}

-- ---- counts

abbrev pub bit : Bool → ℕ
bit b = cond b 1 0

pub bit-most : (b : Bool) → bit b ≤ 1
bit-most b = grind (arith, common_steps, nat_tests)

pub sum_below-more : (f : ℕ → ℕ) (n : ℕ) → sum_below f (n + 1) ≡ f n + sum_below f n
unfolding sum_below
sum_below-more f n = rw add-one refl

pub sum_below-add : (f : ℕ → ℕ) (a b : ℕ) → sum_below f (a + b) ≡ sum_below f a + sum_below (λ k. f (a + k)) b
unfolding sum_below
sum_below-add f a zero = let e : a + 0 ≡ a = omega arith in rw e (omega arith)
sum_below-add f a (suc b) = let e : a + suc b ≡ suc (a + b) = omega arith in rw (e, sum_below-add f a b) (omega arith)

pub sum_below-up : (f : ℕ → ℕ) (n m : ℕ) → n ≤ m → sum_below f n ≤ sum_below f m
sum_below-up f n m le = let e : n + (m - n) ≡ m = omega (arith, le) in omega (arith, ap (sum_below f) e, sum_below-add f n (m - n))

-- a count is a sum
pub count-sum : (f : ℕ → Bool) (n : ℕ) → count_below f n ≡ sum_below (λ k. bit (f k)) n
unfolding count_below sum_below
count-sum f zero = refl
count-sum f (suc n) = omega (arith, count-sum f n)

pub count_below-add : (f : ℕ → Bool) (a b : ℕ) → count_below f (a + b) ≡ count_below f a + count_below (λ k. f (a + k)) b
count_below-add f a b = omega (arith, sum_below-add (λ k. bit (f k)) a b, count-sum f (a + b), count-sum f a, count-sum (λ k. f (a + k)) b)

pub count_below-up : (f : ℕ → Bool) (n m : ℕ) → n ≤ m → count_below f n ≤ count_below f m
count_below-up f n m le = omega (arith, sum_below-up (λ k. bit (f k)) n m le, count-sum f n, count-sum f m)

-- numbers that are all alike
pub sum_below-each : (f : ℕ → ℕ) (i k n : ℕ) → ((x : ℕ) → i ≤ x → x < i + k → f x ≡ n) → sum_below f (i + k) ≡ sum_below f i + n * k
sum_below-each f i zero n each = let start : i + 0 ≡ i = omega arith in rw start (omega arith)
sum_below-each f i (suc k) n each = grind (arith, common_steps, nat_tests, sum_below-each f i k n (λ x from to. each x from (omega (arith, to))), sum_below-more f (i + k))

-- ---- the pages that the edit of a chunk takes

pub redoes-used : (layout : Layout) (row c : ℕ) (answer : ℕ → View) (old new : Pages) → row < length layout.ids → c < 262144 → IsOrderly layout old → Redoes layout row c answer old new
    → used_by new row + bit (is_mixed (answers layout old.words row) c) ≡ used_by old row + bit (is_mixed answer c)
redoes-used layout row c answer old new inside below orderly h =
    let at = count_below-at (λ d. is_some (table_at layout old.words (Chunk row d))) (λ d. is_some (table_at layout new.words (Chunk row d))) 262144 c below
    (λ d lt differs. ap (λ o. is_some o) (h.tables (Chunk row d) (inside, lt) (λ e. differs (cc)))) in
    let gigabytes = count_below-same (λ g. is_some (table_at layout old.words (Gigabyte row g))) (λ g. is_some (table_at layout new.words (Gigabyte row g))) 512
    (λ g lt. ap (λ o. is_some o) (h.tables (Gigabyte row g) (inside, lt) (λ e. cc))) in
    let was : bit (is_some (table_at layout old.words (Chunk row c))) ≡ bit (is_mixed (answers layout old.words row) c) = ap bit (orderly.mixed row c inside below) in
    let same : is_mixed (answers layout new.words row) c ≡ is_mixed answer c = mixed-same answer (answers layout new.words row) c (λ i small. ap answer_of (h.walks row (512 * c + i) (omega arith) ∙ chosen c i small) ∙ answer-walked (512 * c + i) (answer (512 * c + i))) in
    let now : bit (is_some (table_at layout new.words (Chunk row c))) ≡ bit (is_mixed answer c) = ap bit (h.orderly.mixed row c inside below ∙ same) in
    omega (arith, at, gigabytes, was, now, orderly.used row inside, h.orderly.used row inside)
  where
    chosen : (c i : ℕ) → i < 512 → cond (eqb row row && eqb ((512 * c + i) / 512) c) (walked (512 * c + i) (answer (512 * c + i))) (walk layout old.words row (512 * c + i)) ≡ walked (512 * c + i) (answer (512 * c + i))
    chosen c i small = let q : (512 * c + i) / 512 ≡ c = omega arith in grind (arith, nat_tests)

-- ---- from chunk to chunk

module _ (layout : Layout) (row g j : ℕ) (runs : List PageRun) (access : View) (old : Pages) (inside : row < length layout.ids) (below : g < 512) where
  abbrev pub before : ℕ → View
  before = answers layout (linked layout row g j old).words row

  abbrev pub after : ℕ → View
  after = edited runs access (answers layout (linked layout row g j old).words row)

  module _ (i : ℕ) (lt : i < 512) (mid : Pages) (h : IsUnderway layout row g j i after old mid) where
    pub quotient : (512 * g + i) / 512 ≡ g
    quotient = omega (arith, lt)

    pub site : IsSite layout row (512 * g + i) j mid
    site = grind (arith, common_steps, nat_tests, quotient)

    -- the chunk's pages are reached as at first
    pub still : (n : ℕ) → n < 2 ^ 27 → n / 512 ≡ 512 * g + i → walk layout (linked layout row g j mid).words row n ≡ walk layout (linked layout row g j old).words row n
    still n small at = grind (arith, common_steps, nat_tests)

    pub still-answers : (n : ℕ) → n < 2 ^ 27 → n / 512 ≡ 512 * g + i → answers_in layout row (512 * g + i) j mid n ≡ before n
    still-answers n small at = ap (λ x. answers layout (linked layout row x j mid).words row n) quotient ∙ ap answer_of (still n small at)

    pub still-mixed : is_mixed (answers_in layout row (512 * g + i) j mid) (512 * g + i) ≡ is_mixed before (512 * g + i)
    still-mixed = mixed-same before (answers_in layout row (512 * g + i) j mid) (512 * g + i) (λ x small. still-answers (512 * (512 * g + i) + x) (omega (arith, small, lt, below)) (omega (arith, small)))

    pub now-mixed : is_mixed (edited runs access (answers_in layout row (512 * g + i) j mid)) (512 * g + i) ≡ is_mixed after (512 * g + i)
    now-mixed = grind (arith, common_steps, nat_tests, mixed-same, still-answers)

    -- there is a page for a chunk that grows
    pub has-free : used_by old row + count_below (λ x. grows_at before after (512 * g + x)) 512 ≤ row_quota old.quotas row → IsGrowing (answers_in layout row (512 * g + i) j mid) (edited runs access (answers_in layout row (512 * g + i) j mid)) (512 * g + i)
        → used_by mid row < row_quota mid.quotas row
    has-free fits grows =
        let one : grows_at before after (512 * g + i) ≡ true = rw (sym now-mixed ∙ grows.now, sym still-mixed ∙ grows.was) refl in
        let up = count_below-up (λ x. grows_at before after (512 * g + x)) (i + 1) 512 (omega arith) in
        omega (arith, count_below-more (λ x. grows_at before after (512 * g + x)) i, (ap bit one), up, (ap (λ q. row_quota q row) h.quotas), fits, h.used)

    -- the pages of the next chunk are not in the runs
    pub underway-skip : ((n : ℕ) → n < 2 ^ 27 → n / 512 ≡ 512 * g + i → covers runs n ≡ false) → IsUnderway layout row g j (i + 1) after old mid
    underway-skip untouched = grind (arith, common_steps, nat_tests, still, tidy-answer, count_below-up)

    -- the next chunk is edited
    pub underway-edit : (new : Pages) → Redoes_in layout row (512 * g + i) j (edited runs access (answers_in layout row (512 * g + i) j mid)) mid new → IsUnderway layout row g j (i + 1) after old new
    underway-edit new e =
        let r : Redoes layout row (512 * g + i) (edited runs access (answers_in layout row (512 * g + i) j mid)) (linked layout row g j mid) (linked layout row g j new) =
        subst (λ x. Redoes layout row (512 * g + i) (edited runs access (answers_in layout row (512 * g + i) j mid)) (linked layout row x j mid) (linked layout row x j new)) quotient e.redoes in
        record {
          orderly = r.orderly;
          second = r.tables (Gigabyte row g) (inside, below) (λ f. cc) ∙ h.second;
          ids = r.ids ∙ h.ids;
          quotas = r.quotas ∙ h.quotas;
          root = λ x. e.root x ∙ h.root x;
          walks = λ q n small. r.walks q n small ∙ elim (cases_eq (n / 512) (512 * g + i)) [
            | inl at ↦ elim (cases_eq q row) [
              | inl f ↦ rw f (here n (walked n (edited runs access (answers_in layout row (512 * g + i) j mid) n)) (walk layout (linked layout row g j mid).words row n) at
                  ∙ ap (walked n) (ap (λ a. cond (covers runs n) access a) (still-answers n small at)) ∙ chosen n (walked n (after n)) (walk layout (linked layout row g j old).words row n) at)
              | inr f ↦ (let no : eqb q row ≡ false = grind (arith, nat_tests, f) in rw no refl) ∙ h.walks q n small
                  ∙ (let no : eqb q row ≡ false = grind (arith, nat_tests, f) in rw no refl)
            ]
            | inr at ↦ elsewhere q n at (walked n (edited runs access (answers_in layout row (512 * g + i) j mid) n)) (walk layout (linked layout row g j mid).words q n) ∙ h.walks q n small
                ∙ (let same : ltb (n / 512) (512 * g + i) ≡ ltb (n / 512) (512 * g + (i + 1)) = grind (arith, nat_tests, at) in rw same refl)
          ];
          others = λ s x in_s lt_x. r.tables (Gigabyte s x) (in_s, lt_x) (λ f. cc) ∙ h.others s x in_s lt_x;
          used =
              let one = redoes-used layout row (512 * g + i) (edited runs access (answers_in layout row (512 * g + i) j mid)) (linked layout row g j mid) (linked layout row g j new) inside (omega (arith, lt, below)) h.orderly r in
              let was : bit (is_mixed (answers layout (linked layout row g j mid).words row) (512 * g + i)) ≡ bit (is_mixed before (512 * g + i)) = ap bit (ap (λ x. is_mixed (answers layout (linked layout row x j mid).words row) (512 * g + i)) (sym quotient) ∙ still-mixed) in
              let now : bit (is_mixed (edited runs access (answers_in layout row (512 * g + i) j mid)) (512 * g + i)) ≡ bit (is_mixed after (512 * g + i)) = ap bit now-mixed in
              let grown : bit (is_mixed after (512 * g + i)) ≤ bit (is_mixed before (512 * g + i)) + bit (grows_at before after (512 * g + i)) = grind (arith, common_steps, nat_tests) in
              omega (arith, one, was, now, count_below-more (λ x. grows_at before after (512 * g + x)) i, grown, h.used);
        }
      where
        here : (n : ℕ) (a b : Walked) → n / 512 ≡ 512 * g + i → cond (eqb row row && eqb (n / 512) (512 * g + i)) a b ≡ a
        here n a b at = grind (arith, nat_tests)

        chosen : (n : ℕ) (a b : Walked) → n / 512 ≡ 512 * g + i → a ≡ cond (eqb row row && (eqb (n / 512 / 512) g && ltb (n / 512) (512 * g + (i + 1)))) a b
        chosen n a b at = let q : n / 512 / 512 ≡ g = omega (arith, at, lt) in grind (arith, nat_tests)

        elsewhere : (q n : ℕ) → n / 512 ≢ 512 * g + i → (a b : Walked) → cond (eqb q row && eqb (n / 512) (512 * g + i)) a b ≡ b
        elsewhere q n at a b = grind (arith, common_steps, nat_tests)

-- ---- chunks that the runs leave alone

pub untouched : (c : ℕ) (runs : List PageRun) (n : ℕ) → touches_chunk c runs ≡ false → n / 512 ≡ c → covers runs n ≡ false
untouched c runs n none at = grind (arith, common_steps, nat_tests, covered-touched)
