-- An edit that is orderly stays so, operation by operation.
use Rattle.std.proofs.Common.{◌≡◌, ℕ, ◌+◌, ◌/◌, ◌^◌, ◌<◌, Bool, true, false, ◌&&◌, eqb, List, [], ◌∷◌, Some, length, refl, arith, ap, sym, ◌∙◌, subst, ◌⊎◌, inl, inr}
use Rattle.stage2.proofs.Names.{nat_tests, PageRun, in_run, row_of, Words, put, Op, Set, Invalidate, Clear, Walked, Layout, Slot, Empty, Next, Maps, Bad, slot, index_1, index_2, index_3, at_1, at_2, at_3, walk, Place, Gigabyte, Chunk, next_page, table_at, IsPlace, words_after, invalidates, AtEachMoment, Walker, Begins, Ends, from_1, from_2, goes_on, UnderWay, now, nothing, OpenCall, MayGive, BreaksFirst, IsInStep, common_steps, Unmapped, Mapped}
use Rattle.stage2.specs.declared.walked.Walked.TheVariants.{Wrong}
use Rattle.stage2.specs.Moments.{cleared_by, Second, Third, Stands, with_clear, GivesOnly, AllBreakFirst, AllClearUnreached}
use Rattle.stage2.proofs.Tree.WalkFrame.{table_at-chunk_in, walk-gigabyte, walk-chunk}
use Rattle.stage2.proofs.Walkers.UnderWay.{after_op, at_start, under_way-now}
use Rattle.stage2.proofs.Tree.LinkTable.{walk-inside}

-- a walk under way may go on from here, over these words
abbrev pub Fits : OpenCall → Words → Bool → ℕ → ℕ → Walker → Type 0
Fits e words due q n Begins = Unit {0}
Fits e words due q n (Second j) = table_at e.layout words (Gigabyte q (index_1 n)) ≡ Some j
Fits e words due q n (Third k) = table_at e.layout words (Chunk q (n / 512)) ≡ Some k
Fits e words due q n (Ends a) = MayGive e q n a × (due ≡ false → (a ≡ Unmapped) ⊎ (a ≡ walk e.layout words q n))

stands-fits : (e : OpenCall) (words : Words) (due : Bool) (q n : ℕ) (w : Walker) → Fits e words due q n w → Stands e.layout words due q n w
stands-fits e words due q n Begins h = tt
stands-fits e words due q n (Second j) h = h
stands-fits e words due q n (Third k) h = h
stands-fits e words due q n (Ends a) h = h.1

-- a walk that gives what a walk over these words gives
fits-now : (e : OpenCall) (words : Words) (due : Bool) (q n : ℕ) (a : Walked) → MayGive e q n (walk e.layout words q n) → walk e.layout words q n ≡ a → Fits e words due q n (Ends a)
fits-now e words due q n a may is = let P : Walked → Type 0 = λ x. MayGive e q n x in (subst P is may, λ _. inr (sym is))

fits-from_1 : (e : OpenCall) (words : Words) (due : Bool) (q n : ℕ) → MayGive e q n (walk e.layout words q n) → (s : Slot)
    → table_at e.layout words (Gigabyte q (index_1 n)) ≡ next_page s → walk e.layout words q n ≡ at_1 e.layout words words n s → Fits e words due q n (from_1 s)
fits-from_1 e words due q n may Empty table is = fits-now e words due q n Unmapped may is
fits-from_1 e words due q n may (Next j) table is = table
fits-from_1 e words due q n may (Maps m a) table is = fits-now e words due q n Wrong may is
fits-from_1 e words due q n may Bad table is = fits-now e words due q n Wrong may is

fits-from_2 : (e : OpenCall) (words : Words) (due : Bool) (q n : ℕ) → MayGive e q n (walk e.layout words q n) → (s : Slot)
    → table_at e.layout words (Chunk q (n / 512)) ≡ next_page s → walk e.layout words q n ≡ at_2 e.layout words n s → Fits e words due q n (from_2 n s)
fits-from_2 e words due q n may Empty table is = fits-now e words due q n Unmapped may is
fits-from_2 e words due q n may (Next k) table is = table
fits-from_2 e words due q n may (Maps m a) table is = fits-now e words due q n (Mapped (m + index_3 n) a) may is
fits-from_2 e words due q n may Bad table is = fits-now e words due q n Wrong may is

pub gigabyte-now : (layout : Layout) (words : Words) (q g : ℕ) → table_at layout words (Gigabyte q g) ≡ next_page (slot layout 1 (words q g))
unfolding table_at
gigabyte-now layout words q g = refl

-- a walk that reads its next word from these words may go on
pub fits-goes_on : (e : OpenCall) (words : Words) (due : Bool) (q n : ℕ) → q < length e.layout.ids → MayGive e q n (walk e.layout words q n) → (w : Walker) → Fits e words due q n w → Fits e words due q n (goes_on e.layout words q n w)
fits-goes_on e words due q n inside may Begins h = fits-from_1 e words due q n may (slot e.layout 1 (words q (index_1 n))) (gigabyte-now e.layout words q (index_1 n)) (walk-inside e.layout words q n inside)
fits-goes_on e words due q n inside may (Second j) h = fits-from_2 e words due q n may (slot e.layout 2 (words j (index_2 n))) (table_at-chunk_in e.layout words q (n / 512) j h) (walk-gigabyte e.layout words q n j inside h)
fits-goes_on e words due q n inside may (Third k) h = fits-now e words due q n (at_3 (slot e.layout 3 (words k (index_3 n)))) may (walk-chunk e.layout words q n k inside h)
fits-goes_on e words due q n inside may (Ends a) h = h

-- ---- at the entry

fits-start : (e : OpenCall) (due : Bool) (q n : ℕ) → q < length e.layout.ids → (w : Walker) → UnderWay e.layout e.entry q n [] w → Fits e e.entry due q n w
fits-start e due q n inside w u = at_start e.layout e.entry q n (Fits e e.entry due q n) tt (fits-goes_on e e.entry due q n inside (inl refl)) w u

-- before the first operation
pub orderly-start : (e : OpenCall) (due : ℕ → Bool) → e.cleared ≡ [] → IsInStep e due e.entry []
orderly-start e due none = record {
  exact = refl;
  gives = λ q n inside small a u. (fits-start e false q n inside (Ends a) u).0;
  breaks = tt;
  clears = tt;
  cleared = sym none;
  stands = λ q n inside small w u. stands-fits e e.entry (eqb q e.row && due n) q n w (fits-start e (eqb q e.row && due n) q n inside w u);
}

pub at_now : (P : List Op → Type 0) (past : List Op) → AtEachMoment P past → P past
at_now P [] h = h
at_now P (op ∷ past) h = h.0

-- each walk under way fits
pub orderly-fits : (e : OpenCall) (due : ℕ → Bool) (words : Words) (past : List Op) → IsInStep e due words past → (q n : ℕ) → q < length e.layout.ids → n < 2 ^ 27
    → (w : Walker) → UnderWay e.layout e.entry q n past w → Fits e words (eqb q e.row && due n) q n w
orderly-fits e due words past h q n inside small Begins u = tt
orderly-fits e due words past h q n inside small (Second j) u = h.stands q n inside small (Second j) u
orderly-fits e due words past h q n inside small (Third k) u = h.stands q n inside small (Third k) u
orderly-fits e due words past h q n inside small (Ends a) u = (at_now (GivesOnly e) past h.gives q n inside small a u, h.stands q n inside small (Ends a) u)

-- ---- one operation more

-- where each walk under way that outlasts an operation fits after it, each one does
fits-after : (e : OpenCall) (due : Bool) {new : Words} {q n : ℕ} (past : List Op) (op : Op) → new ≡ words_after (op ∷ past) e.entry → q < length e.layout.ids → MayGive e q n (walk e.layout new q n)
    → ((w : Walker) → invalidates e.layout op q n ≡ false → UnderWay e.layout e.entry q n past w → Fits e new due q n w) → (w : Walker) → UnderWay e.layout e.entry q n (op ∷ past) w → Fits e new due q n w
fits-after e due {new} {q} {n} past op exact inside may =
    after_op e.layout e.entry q n op past (Fits e new due q n) tt (λ w fits. subst (λ (x : Words). Fits e new due q n (goes_on e.layout x q n w)) exact (fits-goes_on e new due q n inside may w fits))

-- where each walk under way fits after an operation, the edit stays orderly
orderly-more : (e : OpenCall) (more : ℕ → Bool) (new : Words) (past : List Op) (op : Op) → AtEachMoment (GivesOnly e) past
    → new ≡ words_after (op ∷ past) e.entry → AllBreakFirst e.layout e.entry (op ∷ past) → AllClearUnreached e.layout e.entry (op ∷ past) → cleared_by (op ∷ past) ≡ e.cleared
    → ((q n : ℕ) → q < length e.layout.ids → n < 2 ^ 27 → (w : Walker) → UnderWay e.layout e.entry q n (op ∷ past) w → Fits e new (eqb q e.row && more n) q n w)
    → IsInStep e more new (op ∷ past)
orderly-more e more new past op gives exact breaks clears cleared fits = grind (arith, common_steps, nat_tests, stands-fits)

-- at a page a write leaves the tables on its way, makes its walk give what it may, and makes an invalidation due where it takes an answer away
pub record IsFine (e : OpenCall) (due more : Bool) (words new : Words) (q n : ℕ) : Type 0 where
  pub gigabyte : (j : ℕ) → table_at e.layout words (Gigabyte q (index_1 n)) ≡ Some j → table_at e.layout new (Gigabyte q (index_1 n)) ≡ Some j
  pub chunk : (k : ℕ) → table_at e.layout words (Chunk q (n / 512)) ≡ Some k → table_at e.layout new (Chunk q (n / 512)) ≡ Some k
  pub may : MayGive e q n (walk e.layout new q n)
  pub owed : more ≡ false → (due ≡ false) × ((walk e.layout new q n ≡ walk e.layout words q n) ⊎ (walk e.layout words q n ≡ Unmapped))

fits-set : (e : OpenCall) (due more : Bool) (words new : Words) (q n : ℕ) → IsFine e due more words new q n → (w : Walker) → Fits e words due q n w → Fits e new more q n w
fits-set e due more words new q n fine Begins h = tt
fits-set e due more words new q n fine (Second j) h = fine.gigabyte j h
fits-set e due more words new q n fine (Third k) h = fine.chunk k h
fits-set e due more words new q n fine (Ends a) h = grind (arith, common_steps, nat_tests, h.0, fine.owed, h.1)

-- a write that is fine at each page
pub orderly-set : (e : OpenCall) (due more : ℕ → Bool) (words : Words) (past : List Op) (page index word : ℕ) → IsInStep e due words past
    → ((q n : ℕ) → q < length e.layout.ids → n < 2 ^ 27 → IsFine e (eqb q e.row && due n) (eqb q e.row && more n) words (put page index word words) q n)
    → ((a : Place) → IsPlace e.layout a → table_at e.layout words a ≡ Some page → BreaksFirst e.layout e.entry past page index word)
    → IsInStep e more (put page index word words) (Set page index word ∷ past)
orderly-set e due more words past page index word h fine breaks =
    let new = put page index word words in
    let exact : new ≡ words_after (Set page index word ∷ past) e.entry = ap (put page index word) h.exact in
    orderly-more e more new past (Set page index word) h.gives exact
    ((λ a inside at. breaks a inside (ap (λ (x : Words). table_at e.layout x a) h.exact ∙ at)), h.breaks) h.clears h.cleared
    (λ q n inside small.
    let f = fine q n inside small in
    let one = eqb q e.row && more n in
    fits-after e one past (Set page index word) exact inside f.may (λ w free u. fits-set e (eqb q e.row && due n) one words new q n f w (orderly-fits e due words past h q n inside small w u)))

-- what a walk over the present words gives
pub may-now : (e : OpenCall) (due : ℕ → Bool) (words : Words) (past : List Op) → IsInStep e due words past → (q n : ℕ) → q < length e.layout.ids → n < 2 ^ 27 → MayGive e q n (walk e.layout words q n)
may-now e due words past h q n inside small =
    let P : Words → Type 0 = λ x. MayGive e q n (walk e.layout x q n) in
    subst P (sym h.exact) (at_now (GivesOnly e) past h.gives q n inside small (walk e.layout (words_after past e.entry) q n) (under_way-now e.layout e.entry q n past past inside (now past)))

fits-due : (e : OpenCall) (due more : Bool) (words : Words) (q n : ℕ) → (more ≡ false → due ≡ false) → (w : Walker) → Fits e words due q n w → Fits e words more q n w
fits-due e due more words q n fewer Begins h = tt
fits-due e due more words q n fewer (Second j) h = h
fits-due e due more words q n fewer (Third k) h = h
fits-due e due more words q n fewer (Ends a) h = (h.0, λ free. h.1 (fewer free))

-- of a page of the row that is not invalidated nothing is due where nothing was
still-due : (row q who : ℕ) (due more covered : Bool) → who ≡ row → (eqb who q && covered) ≡ false → (more ≡ false → covered ≡ false → due ≡ false) → (eqb q row && more) ≡ false → (eqb q row && due) ≡ false
still-due row q who due more covered is free fewer none = grind (arith, common_steps, nat_tests)

-- an invalidation of pages for the partition of the row: none of them is due any more
pub orderly-invalidate : (e : OpenCall) (due more : ℕ → Bool) (words : Words) (past : List Op) (who : ℕ) (run : PageRun) → IsInStep e due words past
    → row_of e.layout.ids who ≡ e.row → ((n : ℕ) → n < 2 ^ 27 → more n ≡ false → in_run run n ≡ false → due n ≡ false)
    → IsInStep e more words (Invalidate who run ∷ past)
orderly-invalidate e due more words past who run h is fewer =
    orderly-more e more words past (Invalidate who run) h.gives h.exact h.breaks h.clears h.cleared
    (λ q n inside small.
    let one = eqb q e.row && more n in
    fits-after e one past (Invalidate who run) h.exact inside (may-now e due words past h q n inside small)
    (λ w free u. fits-due e (eqb q e.row && due n) one words q n (still-due e.row q (row_of e.layout.ids who) (due n) (more n) (in_run run n) is free (fewer n small)) w (orderly-fits e due words past h q n inside small w u)))

-- pages are cleared that no partition reaches, while nothing is due
pub orderly-clearing : (e : OpenCall) (words : Words) (past : List Op) (run : PageRun) → IsInStep e nothing words past
    → ((q n : ℕ) → q < length e.layout.ids → n < 2 ^ 27 → in_run run n ≡ true → walk e.layout words q n ≡ Unmapped)
    → IsInStep (with_clear run e) nothing words (Clear run ∷ past)
orderly-clearing e words past run h none =
    orderly-more (with_clear run e) nothing words past (Clear run) h.gives h.exact h.breaks (
      (λ q n a inside small here u. elim (h.stands q n inside small (Ends a) u (grind (arith, common_steps, nat_tests))) [
        | inl unmapped ↦ unmapped
        | inr is ↦ is ∙ none q n inside small here
      ]),
      h.clears,
    )
    (ap (λ runs. run ∷ runs) h.cleared)
    (λ q n inside small.
    fits-after e (eqb q e.row && false) past (Clear run) h.exact inside (may-now e nothing words past h q n inside small) (λ w free u. orderly-fits e nothing words past h q n inside small w u))

-- invalidations of more pages may be thought due
pub orderly-weaker : (e : OpenCall) (due more : ℕ → Bool) (words : Words) (past : List Op) → IsInStep e due words past → ((n : ℕ) → n < 2 ^ 27 → more n ≡ false → due n ≡ false) → IsInStep e more words past
orderly-weaker e due more words past h fewer = grind (arith, common_steps, nat_tests, stands-fits, fits-due, orderly-fits)

-- ---- a table is taken away, and all pages below are invalidated at once

-- a page below the word that was set to 0: the table that a walk under way is to read has the word that it had
pub record IsCut (e : OpenCall) (words new : Words) (q n : ℕ) : Type 0 where
  pub second : (j : ℕ) → table_at e.layout words (Gigabyte q (index_1 n)) ≡ Some j → (table_at e.layout new (Gigabyte q (index_1 n)) ≡ Some j) ⊎ (new j (index_2 n) ≡ words j (index_2 n))
  pub third : (k : ℕ) → table_at e.layout words (Chunk q (n / 512)) ≡ Some k → new k (index_3 n) ≡ words k (index_3 n)
  pub may : MayGive e q n (walk e.layout new q n)

-- between the two a walk goes on over the words before the write, or over those after it
abbrev FitsEither : OpenCall → Words → Words → ℕ → ℕ → Walker → Type 0
FitsEither e words new q n w = Fits e words true q n w ⊎ Fits e new true q n w

cut-goes_on : (e : OpenCall) (words new : Words) (q n : ℕ) → q < length e.layout.ids → MayGive e q n (walk e.layout words q n) → IsCut e words new q n
    → (w : Walker) → FitsEither e words new q n w → FitsEither e words new q n (goes_on e.layout new q n w)
cut-goes_on e words new q n inside may cut Begins h = inr (fits-goes_on e new true q n inside cut.may Begins tt)
cut-goes_on e words new q n inside may cut (Second j) h = elim h [
  | inl old ↦ elim (cut.second j old) [
    | inl here ↦ inr (fits-goes_on e new true q n inside cut.may (Second j) here)
    | inr same ↦ inl (subst (λ (x : ℕ). Fits e words true q n (from_2 n (slot e.layout 2 x))) (sym same) (fits-goes_on e words true q n inside may (Second j) old))
  ]
  | inr fresh ↦ inr (fits-goes_on e new true q n inside cut.may (Second j) fresh)
]
cut-goes_on e words new q n inside may cut (Third k) h = elim h [
  | inl old ↦ inl (subst (λ (x : ℕ). Fits e words true q n (Ends (at_3 (slot e.layout 3 x)))) (sym (cut.third k old)) (fits-goes_on e words true q n inside may (Third k) old))
  | inr fresh ↦ inr (fits-goes_on e new true q n inside cut.may (Third k) fresh)
]
cut-goes_on e words new q n inside may cut (Ends a) h = h

-- a word is set to 0 and pages are invalidated: each page either keeps its tables, or is below the word and invalidated
pub orderly-cut : (e : OpenCall) (due : ℕ → Bool) (words : Words) (past : List Op) (page index who : ℕ) (run : PageRun) → IsInStep e due words past
    → ((q n : ℕ) → q < length e.layout.ids → n < 2 ^ 27
    → IsFine e (eqb q e.row && due n) (eqb q e.row && due n) words (put page index 0 words) q n
    ⊎ ((invalidates e.layout (Invalidate who run) q n ≡ true) × IsCut e words (put page index 0 words) q n))
    → ((a : Place) → IsPlace e.layout a → table_at e.layout words a ≡ Some page → BreaksFirst e.layout e.entry past page index 0)
    → IsInStep e due (put page index 0 words) (Invalidate who run ∷ Set page index 0 ∷ past)
orderly-cut e due words past page index who run h each breaks =
    let new = put page index 0 words in
    let set : Op = Set page index 0 in
    let exact : new ≡ words_after (set ∷ past) e.entry = ap (put page index 0) h.exact in
    let may-new : (q n : ℕ) → q < length e.layout.ids → n < 2 ^ 27 → MayGive e q n (walk e.layout new q n) = λ q n inside small. elim (each q n inside small) [ inl fine ↦ fine.may | inr cut ↦ cut.1.may ] in
    let kept : (q n : ℕ) → q < length e.layout.ids → n < 2 ^ 27 → IsFine e (eqb q e.row && due n) (eqb q e.row && due n) words new q n → (w : Walker) → UnderWay e.layout e.entry q n (set ∷ past) w → Fits e new (eqb q e.row && due n) q n w =
    λ q n inside small f.
    let one = eqb q e.row && due n in
    fits-after e one past set exact inside f.may (λ w free u. fits-set e one one words new q n f w (orderly-fits e due words past h q n inside small w u)) in
    let between : (q n : ℕ) → q < length e.layout.ids → n < 2 ^ 27 → IsCut e words new q n → (w : Walker) → UnderWay e.layout e.entry q n (set ∷ past) w → FitsEither e words new q n w =
    λ q n inside small cut.
    after_op e.layout e.entry q n set past (FitsEither e words new q n) (inr tt)
    (λ w fits. subst (λ (x : Words). FitsEither e words new q n (goes_on e.layout x q n w)) exact (cut-goes_on e words new q n inside (may-now e due words past h q n inside small) cut w fits))
    (λ w free u. inl (fits-due e (eqb q e.row && due n) true words q n (λ t. absurd (cc)) w (orderly-fits e due words past h q n inside small w u))) in
    let fits : (q n : ℕ) → q < length e.layout.ids → n < 2 ^ 27 → (w : Walker) → UnderWay e.layout e.entry q n (Invalidate who run ∷ set ∷ past) w → Fits e new (eqb q e.row && due n) q n w =
    λ q n inside small.
    fits-after e (eqb q e.row && due n) (set ∷ past) (Invalidate who run) exact inside (may-new q n inside small) (λ w free u. elim (each q n inside small) [
      | inl fine ↦ kept q n inside small fine w u
      | inr cut ↦ let covered = cut.0 in absurd (cc)
    ]) in
    record {
      exact = exact;
      gives = grind (arith, common_steps, nat_tests);
      breaks = (λ a inside at. breaks a inside (ap (λ (x : Words). table_at e.layout x a) h.exact ∙ at), h.breaks);
      clears = h.clears;
      cleared = h.cleared;
      stands = λ q n inside small w u. stands-fits e new (eqb q e.row && due n) q n w (fits q n inside small w u);
    }
