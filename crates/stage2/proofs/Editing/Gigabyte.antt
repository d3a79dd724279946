-- The edit of a gigabyte, from its chunks and its link.
use Rattle.std.proofs.Common.{◌≡◌, ◌≢◌, ℕ, ◌+◌, ◌-◌, ◌*◌, ◌/◌, ◌^◌, ◌<◌, ◌≤◌, true, false, ◌&&◌, cond, eqb, ltb, is_some, List, Some, None, length, refl, arith, ap, sym, subst, ◌∙◌, inl, inr}
use Rattle.stage2.proofs.Names.{nat_tests, PageRun, covers, View, table_word_of, Pages, with_put, with_mark, used_by, row_quota, count_below, Layout, Slot, Empty, Next, Maps, Bad, slot, at_2, walk, walked, Root, Gigabyte, Chunk, next_page, table_at, is_mixed, is_reached, IsOrderly, IsCanonical, answers, answer_of, linked, edited, chunks_operations, grows_at, gigabyte_growth, IsUnderway, EditsGigabyte, Touches, common_steps, cases_Bool}
use Rattle.words.proofs.RoundTrip.{word-table}
use Rattle.pool.proofs.Shares.{used_by-take, used_by-give}
use Rattle.stage2.proofs.Counting.Operations.{chunks-same}
use Rattle.stage2.proofs.Tree.KnownWords.{chunk-walk, second-known}
use Rattle.stage2.proofs.Tree.RootWrites.{is_pair, at-pair}
use Rattle.stage2.proofs.Tree.WalkFrame.{chunk-table, put-other, table_at-root}
use Rattle.stage2.proofs.Counting.Needs.{grows-same, reached-same, reached-some, reached-none, mixed-none}
use Rattle.manifest.proofs.Tables.{any_below-none}
use Rattle.stage2.proofs.Tree.PutTwice.{with_put-twice, with_put-there}
use Rattle.stage2.proofs.Editing.RootLinks.{IsLink, IsUnlink, IsRooted, rooted, same-walk, kept, link-rooted, unlink-rooted, unlink-table, unlink-unmapped, untabled}
use Rattle.stage2.proofs.Editing.ChunkKeeps.{answer-walked}
use Rattle.stage2.proofs.Editing.FourChunkEdits.{is-next}

-- ---- a table word

pub table-word : (layout : Layout) (level word k : ℕ) → slot layout level word ≡ Next k → word ≡ table_word_of (layout.base + k)
unfolding slot
table-word layout level word k e = grind (arith, common_steps, nat_tests, word-table)

-- ---- canonical again

pub canonical-from : (layout : Layout) (row g : ℕ) (old new : Pages) → IsCanonical layout old → IsOrderly layout new
    → ((r x : ℕ) → r < length layout.ids → x < 512 → (r ≡ row → x ≡ g → ⊥) → table_at layout new.words (Gigabyte r x) ≡ table_at layout old.words (Gigabyte r x))
    → ((r n : ℕ) → n < 2 ^ 27 → (r ≡ row → n / 512 / 512 ≡ g → ⊥) → walk layout new.words r n ≡ walk layout old.words r n)
    → is_some (table_at layout new.words (Gigabyte row g)) ≡ is_reached (answers layout new.words row) g → IsCanonical layout new
canonical-from layout row g old new canonical orderly others apart here = record {
  orderly = orderly;
  reached = λ r x inside below. elim (is_pair row g r x) [
    | inl e ↦ rw (e.0, e.1) here
    | inr e ↦
        ap (λ o. is_some o) (others r x inside below e) ∙ canonical.reached r x inside below
        ∙ sym (reached-same (answers layout old.words r) (answers layout new.words r) x (λ i small. ap answer_of (apart r (262144 * x + i) (omega (arith, small, below)) (λ s at. e s (omega (arith, small, at))))))
  ];
}

-- ---- after the last chunk

module _ (layout : Layout) (row g j : ℕ) (answer : ℕ → View) (old new : Pages) (below : g < 512) (h : IsUnderway layout row g j 512 answer old new) where
  all-chunks : (n : ℕ) → n / 512 / 512 ≡ g → ltb (n / 512) (512 * g + 512) ≡ true
  all-chunks n e = grind (arith, nat_tests)

  pub done-here : (n : ℕ) → n < 2 ^ 27 → n / 512 / 512 ≡ g → walk layout (linked layout row g j new).words row n ≡ walked n (answer n)
  done-here n small e = h.walks row n small ∙ (let a = all-chunks n e in let b : eqb (n / 512 / 512) g ≡ true = grind (arith, nat_tests) in let r : eqb row row ≡ true = grind (arith, nat_tests) in rw (r, b, a) refl)

  pub done-apart : (q n : ℕ) → n < 2 ^ 27 → (q ≡ row → n / 512 / 512 ≡ g → ⊥) → walk layout (linked layout row g j new).words q n ≡ walk layout (linked layout row g j old).words q n
  done-apart q n small other = grind (arith, common_steps, nat_tests)

  pub done-walks : (q n : ℕ) → n < 2 ^ 27 → walk layout (linked layout row g j new).words q n ≡ cond (eqb q row && eqb (n / 512 / 512) g) (walked n (answer n)) (walk layout (linked layout row g j old).words q n)
  done-walks q n small = at-pair row g q (n / 512 / 512) (λ e at. rw e (done-here n small at)) (done-apart q n small)

pub is-none : (a : View) → is_some a ≡ false → a ≡ None
is-none a e = grind (arith, common_steps, nat_tests)

pub not-reached : (v : ℕ → View) (g i : ℕ) → is_reached v g ≡ false → i < 262144 → v (262144 * g + i) ≡ None
unfolding is_reached
not-reached v g i e below = is-none (v (262144 * g + i)) (any_below-none (λ i. is_some (v (262144 * g + i))) 262144 i e below)

-- a level 2 table that has a valid word reaches a page
pub word-reaches : (layout : Layout) (row g k x : ℕ) (m : Pages) → IsOrderly layout m → row < length layout.ids → g < 512 → table_at layout m.words (Gigabyte row g) ≡ Some k → x < 512 → m.words k x ≢ 0 → is_reached (answers layout m.words row) g ≡ true
word-reaches layout row g k x m orderly inside below table lt nonzero = elim (cases_Bool (is_reached (answers layout m.words row) g)) [
  | inl t ↦ t
  | inr f ↦ absurd (by-slot (slot layout 2 (m.words k x)) refl (λ i small. not-reached (answers layout m.words row) g i f small))
]
  where
    none-n : ((i : ℕ) → i < 262144 → answers layout m.words row (262144 * g + i) ≡ None) → answer_of (at_2 layout m.words (512 * (512 * g + x)) (slot layout 2 (m.words k x))) ≡ None
    none-n none = let place : 512 * (512 * g + x) ≡ 262144 * g + 512 * x = omega arith in sym (ap answer_of (chunk-walk layout m row g x k inside lt table)) ∙ ap (answers layout m.words row) place ∙ none (512 * x) (omega (arith, lt))

    by-slot : (s : Slot) → slot layout 2 (m.words k x) ≡ s → ((i : ℕ) → i < 262144 → answers layout m.words row (262144 * g + i) ≡ None) → ⊥
    by-slot Empty e none = nonzero (orderly.clean (Gigabyte row g) k x (inside, below) table lt e)
    by-slot (Maps p a) e none = let some : Some a ≡ None = sym (ap (λ s. answer_of (at_2 layout m.words (512 * (512 * g + x)) s)) e) ∙ none-n none in cc
    by-slot (Next q) e none =
        let hangs : table_at layout m.words (Chunk row (512 * g + x)) ≡ Some q = chunk-table layout m.words row g x k lt table ∙ ap next_page e in
        let mixed : true ≡ is_mixed (answers layout m.words row) (512 * g + x) = sym (ap (λ o. is_some o) hangs) ∙ orderly.mixed row (512 * g + x) inside (omega (arith, lt, below)) in
        let unmixed : is_mixed (answers layout m.words row) (512 * g + x) ≡ false = mixed-none (answers layout m.words row) (512 * g + x) (λ i small. let spot : 512 * (512 * g + x) + i ≡ 262144 * g + (512 * x + i) = omega arith in ap (answers layout m.words row) spot ∙ none (512 * x + i) (omega (arith, lt, small))) in
        absurd (cc)
    by-slot Bad e none = absurd (second-known layout m orderly row g x k inside below lt table e)

-- a level 2 table that is all 0 may be taken away
pub zero-unlink : {layout : Layout} {row g k : ℕ} {answer : ℕ → View} {m mid : Pages} → row < length layout.ids → g < 512 → IsUnderway layout row g k 512 answer m mid → ((i : ℕ) → i < 512 → mid.words k i ≡ 0) → IsUnlink layout row g k (linked layout row g k mid)
zero-unlink {layout} {row} {g} {k} {answer} {m} {mid} inside below u empty =
    let differs : k ≢ row = λ e. let f : Gigabyte row g ≡ Root row = u.orderly.forest (Gigabyte row g) (Root row) k (inside, below) inside u.second (table_at-root layout (linked layout row g k mid).words row ∙ ap Some (sym e)) in cc in
    record {
      orderly = u.orderly;
      partition = inside;
      gigabyte = below;
      table = u.second;
      zero = λ i lt. put-other mid.words row g (table_word_of (layout.base + k)) k i (λ e _. differs e) ∙ empty i lt;
    }

-- ---- a gigabyte that has its level 2 table

module _ (layout : Layout) (row g k : ℕ) (m : Pages) (canonical : IsCanonical layout m) (inside : row < length layout.ids) (below : g < 512) (table : table_at layout m.words (Gigabyte row g) ≡ Some k) where
  root-word : m.words row g ≡ table_word_of (layout.base + k)
  unfolding table_at
  root-word = table-word layout 1 (m.words row g) k (is-next (slot layout 1 (m.words row g)) k table)

  pub linked-same : linked layout row g k m ≡ m
  linked-same = with_put-there m row g (table_word_of (layout.base + k)) root-word

  -- its chunks make as many operations, seen so
  pub tabled-chunks : (runs : List PageRun) (access : View) → chunks_operations runs access (answers layout (linked layout row g k m).words row) g ≡ chunks_operations runs access (answers layout m.words row) g
  tabled-chunks runs access = ap (λ (x : Pages). chunks_operations runs access (answers layout x.words row) g) linked-same

  pub finish-kept : (answer : ℕ → View) (new : Pages) → IsUnderway layout row g k 512 answer m new → (x : ℕ) → x < 512 → new.words k x ≢ 0 → EditsGigabyte layout row g answer m new
  finish-kept answer new u x lt nonzero =
      let same : linked layout row g k new ≡ new = with_put-there new row g (table_word_of (layout.base + k)) (u.root g ∙ root-word) in
      let orderly : IsOrderly layout new = subst (λ (y : Pages). IsOrderly layout y) same u.orderly in
      let now : table_at layout new.words (Gigabyte row g) ≡ Some k = sym (ap (λ (y : Pages). table_at layout y.words (Gigabyte row g)) same) ∙ u.second in
      record {
        canonical = canonical-from layout row g m new canonical orderly
            (λ r y in_r lt_y _. sym (ap (λ (z : Pages). table_at layout z.words (Gigabyte r y)) same) ∙ u.others r y in_r lt_y ∙ ap (λ (z : Pages). table_at layout z.words (Gigabyte r y)) linked-same)
            (λ r n small apart. sym (ap (λ (z : Pages). walk layout z.words r n) same) ∙ done-apart layout row g k answer m new below u r n small apart ∙ ap (λ (z : Pages). walk layout z.words r n) linked-same)
            (ap (λ o. is_some o) now ∙ sym (word-reaches layout row g k x new orderly inside below now lt nonzero));
        ids = u.ids;
        quotas = u.quotas;
        walks = λ q n small.
            sym (ap (λ (z : Pages). walk layout z.words q n) same) ∙ done-walks layout row g k answer m new below u q n small
            ∙ ap (λ (z : Pages). cond (eqb q row && eqb (n / 512 / 512) g) (walked n (answer n)) (walk layout z.words q n)) linked-same;
        used = let used = subst (λ (z : Pages). used_by new row ≤ used_by m row + count_below (λ x. grows_at (answers layout z.words row) answer (512 * g + x)) 512) linked-same u.used in omega (arith, used);
      }

  pub finish-zero : (answer : ℕ → View) (mid new : Pages) → IsUnderway layout row g k 512 answer m mid → ((i : ℕ) → i < 512 → mid.words k i ≡ 0) → new ≡ with_mark k false (with_put row g 0 mid) → EditsGigabyte layout row g answer m new
  finish-zero answer mid new u empty is =
      let h : IsUnlink layout row g k (linked layout row g k mid) = zero-unlink inside below u empty in
      let to : Pages = with_mark k false (with_put row g 0 (linked layout row g k mid)) in
      let r : IsRooted layout row g 0 (linked layout row g k mid) to = unlink-rooted layout row g k (linked layout row g k mid) h in
      let same : to ≡ new = ap (with_mark k false) (with_put-twice mid row g (table_word_of (layout.base + k)) 0) ∙ sym is in
      let made : EditsGigabyte layout row g answer m to = record {
        canonical = canonical-from layout row g m to canonical (rooted layout row g 0 (linked layout row g k mid) to r)
            (λ s y in_s lt_y apart. kept layout row g 0 (linked layout row g k mid) to r (Gigabyte s y) (in_s, lt_y) (λ e. apart (cc) (cc)) ∙ u.others s y in_s lt_y ∙ ap (λ (z : Pages). table_at layout z.words (Gigabyte s y)) linked-same)
            (λ s n small apart. same-walk layout row g 0 (linked layout row g k mid) to r s n small ∙ done-apart layout row g k answer m mid below u s n small apart ∙ ap (λ (z : Pages). walk layout z.words s n) linked-same)
            (ap (λ o. is_some o) (unlink-table layout row g k (linked layout row g k mid) h)
            ∙ sym (reached-none (answers layout to.words row) g (λ i small. ap answer_of (same-walk layout row g 0 (linked layout row g k mid) to r row (262144 * g + i) (omega (arith, small, below)) ∙ unlink-unmapped layout row g k (linked layout row g k mid) h (262144 * g + i) (omega (arith, small))))));
        ids = u.ids;
        quotas = u.quotas;
        walks = λ q n small.
            same-walk layout row g 0 (linked layout row g k mid) to r q n small ∙ done-walks layout row g k answer m mid below u q n small
            ∙ ap (λ (z : Pages). cond (eqb q row && eqb (n / 512 / 512) g) (walked n (answer n)) (walk layout z.words q n)) linked-same;
        used =
            let less = used_by-give mid row k (u.orderly.owned (Gigabyte row g) k (inside, below) u.second) (u.orderly.taken (Gigabyte row g) k (inside, below) u.second) in
            omega (arith, subst (λ (z : Pages). used_by mid row ≤ used_by m row + count_below (λ x. grows_at (answers layout z.words row) answer (512 * g + x)) 512) linked-same u.used, less);
      } in
      subst (λ (z : Pages). EditsGigabyte layout row g answer m z) same made

-- ---- a gigabyte in which pages are mapped

covered-page : {runs : List PageRun} {g : ℕ} (touches : Touches runs g) (access : View) (v : ℕ → View) → edited runs access v touches.page ≡ access
covered-page touches access v = let c = touches.covered in rw c refl

reaches : {runs : List PageRun} {g : ℕ} (touches : Touches runs g) (access : View) → is_some access ≡ true → (v : ℕ → View) → v touches.page ≡ access → is_reached v g ≡ true
reaches {runs} {g} touches access maps v e = reached-some v g (touches.page - 262144 * g) (let a = touches.here in omega arith) (ap (λ n. is_some (v n)) (let a = touches.here in omega arith) ∙ ap (λ a. is_some a) e ∙ maps)

-- one table is for the gigabyte itself, where it had none
pub touched-growth : (runs : List PageRun) (access : View) (v : ℕ → View) {g : ℕ} → Touches runs g → is_some access ≡ true → is_reached v g ≡ false → gigabyte_growth v (edited runs access v) g ≡ 1 + count_below (λ x. grows_at v (edited runs access v) (512 * g + x)) 512
touched-growth runs access v {g} touches maps none = let now = reaches touches access maps (edited runs access v) (covered-page touches access v) in rw (now, none) refl

-- ---- a gigabyte that gets its level 2 table

module _ (layout : Layout) (row g k : ℕ) (runs : List PageRun) (access : View) (m : Pages) (canonical : IsCanonical layout m) (below : g < 512) (h : IsLink layout row g k m) (touches : Touches runs g) (maps : is_some access ≡ true) where
  r : IsRooted layout row g (table_word_of (layout.base + k)) m (linked layout row g k (with_mark k true m))
  r = link-rooted layout row g k m h

  pub same-answers : (n : ℕ) → n < 2 ^ 27 → answers layout (linked layout row g k (with_mark k true m)).words row n ≡ answers layout m.words row n
  same-answers n small = ap answer_of (same-walk layout row g (table_word_of (layout.base + k)) m (linked layout row g k (with_mark k true m)) r row n small)

  pub same-edited : (n : ℕ) → n < 2 ^ 27 → edited runs access (answers layout (linked layout row g k (with_mark k true m)).words row) n ≡ edited runs access (answers layout m.words row) n
  same-edited n small = ap (λ a. cond (covers runs n) access a) (same-answers n small)

  same-growth : count_below (λ x. grows_at (answers layout (linked layout row g k (with_mark k true m)).words row) (edited runs access (answers layout (linked layout row g k (with_mark k true m)).words row)) (512 * g + x)) 512
      ≡ count_below (λ x. grows_at (answers layout m.words row) (edited runs access (answers layout m.words row)) (512 * g + x)) 512
  same-growth = grows-same (answers layout m.words row) (edited runs access (answers layout m.words row)) _ _ g (λ n at. same-answers n (omega (arith, at, below))) (λ n at. same-edited n (omega (arith, at, below)))

  -- its chunks make as many operations, seen so
  pub link-chunks : (new : Pages) → new ≡ with_mark k true m → chunks_operations runs access (answers layout (linked layout row g k new).words row) g ≡ chunks_operations runs access (answers layout m.words row) g
  link-chunks new is = grind (arith, common_steps, nat_tests, chunks-same, same-answers)

  growth : gigabyte_growth (answers layout m.words row) (edited runs access (answers layout m.words row)) g
      ≡ 1 + count_below (λ x. grows_at (answers layout m.words row) (edited runs access (answers layout m.words row)) (512 * g + x)) 512
  growth =
      touched-growth runs access (answers layout m.words row) touches maps (sym (canonical.reached row g h.partition below) ∙ ap (λ o. is_some o) h.none)

  took : used_by (with_mark k true m) row ≡ used_by m row + 1
  took = used_by-take m row k h.inside h.free

  pub link-fits : used_by m row + gigabyte_growth (answers layout m.words row) (edited runs access (answers layout m.words row)) g ≤ row_quota m.quotas row
      → used_by (with_mark k true m) row + count_below (λ x. grows_at (answers layout (linked layout row g k (with_mark k true m)).words row) (edited runs access (answers layout (linked layout row g k (with_mark k true m)).words row)) (512 * g + x)) 512 ≤ row_quota m.quotas row
  link-fits fits = omega (arith, fits, growth, took, same-growth)

  pub finish-link : (mid new : Pages) → IsUnderway layout row g k 512 (edited runs access (answers layout (linked layout row g k (with_mark k true m)).words row)) (with_mark k true m) mid → new ≡ with_put row g (table_word_of (layout.base + k)) mid
      → EditsGigabyte layout row g (edited runs access (answers layout m.words row)) m new
  finish-link mid new u is =
      let to : Pages = linked layout row g k mid in
      let w = edited runs access (answers layout (linked layout row g k (with_mark k true m)).words row) in
      let walk-here : walk layout to.words row touches.page ≡ walked touches.page access =
      done-here layout row g k w (with_mark k true m) mid below u touches.page touches.small touches.here ∙ ap (walked touches.page) (same-edited touches.page touches.small ∙ covered-page touches access (answers layout m.words row)) in
      let made : EditsGigabyte layout row g (edited runs access (answers layout m.words row)) m to = record {
        canonical = canonical-from layout row g m to canonical u.orderly
            (λ s y in_s lt_y apart. u.others s y in_s lt_y ∙ kept layout row g (table_word_of (layout.base + k)) m (linked layout row g k (with_mark k true m)) r (Gigabyte s y) (in_s, lt_y) (λ e. apart (cc) (cc)))
            (λ s n small apart. done-apart layout row g k w (with_mark k true m) mid below u s n small apart ∙ same-walk layout row g (table_word_of (layout.base + k)) m (linked layout row g k (with_mark k true m)) r s n small)
            (ap (λ o. is_some o) u.second ∙ sym (reaches touches access maps (answers layout to.words row) (ap answer_of walk-here ∙ answer-walked touches.page access)));
        ids = u.ids;
        quotas = u.quotas;
        walks = λ q n small. grind (arith, common_steps, nat_tests, done-walks layout row g k w (with_mark k true m) mid below u q n small, same-edited n small, same-walk layout row g (table_word_of (layout.base + k)) m (linked layout row g k (with_mark k true m)) r q n small);
        used = let used = u.used in omega (arith, used, growth, took, same-growth);
      } in
      subst (λ (z : Pages). EditsGigabyte layout row g (edited runs access (answers layout m.words row)) m z) (sym is) made

-- ---- nothing is mapped, and nothing is to be

pub finish-none : (layout : Layout) (row g : ℕ) (runs : List PageRun) (m : Pages) → IsCanonical layout m → row < length layout.ids → table_at layout m.words (Gigabyte row g) ≡ None → EditsGigabyte layout row g (edited runs None (answers layout m.words row)) m m
finish-none layout row g runs m canonical inside none = grind (arith, common_steps, nat_tests, untabled, r)

-- a gigabyte that is touched has a number below 512
pub touched-below : (runs : List PageRun) (g : ℕ) → Touches runs g → g < 512
touched-below runs g touches = let small = touches.small in let here = touches.here in omega (arith, small, here)

-- there is a page for its level 2 table
pub link-has-free : (layout : Layout) (row g : ℕ) (runs : List PageRun) (access : View) (m : Pages) → IsCanonical layout m → row < length layout.ids → g < 512 → table_at layout m.words (Gigabyte row g) ≡ None → Touches runs g → is_some access ≡ true
    → used_by m row + gigabyte_growth (answers layout m.words row) (edited runs access (answers layout m.words row)) g ≤ row_quota m.quotas row → used_by m row < row_quota m.quotas row
link-has-free layout row g runs access m canonical inside below none touches maps fits =
    let growth = touched-growth runs access (answers layout m.words row) touches maps (sym (canonical.reached row g inside below) ∙ ap (λ o. is_some o) none) in
    omega (arith, growth, fits)
