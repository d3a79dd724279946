-- The word of a root is written, or set to 0, as walks under way see it.
use Rattle.std.proofs.Common.{◌≡◌, ℕ, ◌+◌, ◌*◌, ◌/◌, ◌^◌, ◌<◌, Bool, true, ◌&&◌, eqb, cond, List, ◌∷◌, None, length, arith, ap, sym, subst, ◌∙◌, ◌⊎◌, inl, inr}
use Rattle.stage2.proofs.Names.{nat_tests, PageRun, covers, View, row_of, table_word_of, Pool, Pages, Words, words_of, put, with_mark, Set, Invalidate, Walked, Layout, Slot, Empty, slot, index_1, at_1, walk, walked, Root, Gigabyte, next_page, table_at, IsForest, is_mixed, IsOrderly, IsCanonical, answers, linked, edited, AreFree, disturbed, IsUnderway, IsInvalid, MayGive, IsInStep, IsLogged, nothing, StaysInStep, IsSeated, disturbed_below, common_steps, Unmapped}
use Rattle.stage2.proofs.Tree.WalkFrame.{put-same, table_at-root}
use Rattle.stage2.proofs.Walkers.InStep.{may-now, gigabyte-now}
use Rattle.stage2.proofs.Tree.LinkTable.{walk-inside}
use Rattle.stage2.proofs.Walkers.BreakBeforeMake.{invalid-empty}
use Rattle.stage2.proofs.Walkers.TableWrites.{orderly-root, orderly-cut_gigabyte}
use Rattle.stage2.proofs.Walkers.ZeroedTables.{counted-op, stays-wider, stays-as}
use Rattle.stage2.proofs.Tree.PutTwice.{put-twice, put-there, with_put-there}
use Rattle.stage2.proofs.Walkers.CallSeams.{hangs-linked}
use Rattle.stage2.proofs.Counting.Needs.{mixed-same}
use Rattle.stage2.proofs.Editing.Gigabyte.{zero-unlink}
use Rattle.stage2.proofs.Editing.RootLinks.{untabled, IsUnlink, unlink-unmapped, IsLink}
use Rattle.stage2.proofs.Editing.ChunkByChunk.{untouched}
use Rattle.stage2.proofs.Walkers.Disturbed.{below-all}

-- it becomes 0, and the gigabyte, where nothing is mapped, is invalidated
pub stays-unlinked : (layout : Layout) (row who g : ℕ) (which : ℕ → Bool) (answer : ℕ → Walked) (old mid new : Pool) → IsForest layout (words_of old.memory.words) → row < length layout.ids → row_of layout.ids who ≡ row
    → ((n : ℕ) → n < 2 ^ 27 → n / 512 / 512 ≡ g → walk layout (words_of old.memory.words) row n ≡ Unmapped)
    → words_of mid.memory.words ≡ put row g 0 (words_of old.memory.words) → IsLogged (Set row g 0) old mid → new.memory ≡ mid.memory → IsLogged (Invalidate who (record { first = 262144 * g; count = 262144 })) mid new
    → StaysInStep layout row which answer old new
stays-unlinked layout row who g which answer old mid new forest partition is unmapped wrote set same invalidated e allows o =
    let words = words_of old.memory.words in
    let forest_here : IsForest e.layout words = subst (λ (l : Layout). IsForest l words) (sym allows.same_layout) forest in
    let unmapped_here : (n : ℕ) → n < 2 ^ 27 → index_1 n ≡ g → walk e.layout words e.row n ≡ Unmapped = rw (allows.same_layout, allows.same_row) unmapped in
    let done : IsInStep e nothing (put row g 0 words) (Invalidate who (record { first = 262144 * g; count = 262144 }) ∷ Set row g 0 ∷ old.operations) =
    subst (λ r. IsInStep e nothing (put r g 0 words) (Invalidate who (record { first = 262144 * g; count = 262144 }) ∷ Set r g 0 ∷ old.operations)) allows.same_row
    (orderly-cut_gigabyte e nothing words old.operations g who forest_here (rw (allows.same_layout, allows.same_row) partition) (rw (allows.same_layout, allows.same_row) is) unmapped_here o.orderly) in
    record {
      orderly = rw (same, wrote, invalidated.operations, set.operations) done;
      counted = counted-op e (Invalidate who (record { first = 262144 * g; count = 262144 })) mid new invalidated (counted-op e (Set row g 0) old mid set o.counted);
    }

-- it points at a table that was filled
pub stays-root : (layout : Layout) (row g word : ℕ) (which : ℕ → Bool) (answer : ℕ → Walked) (old new : Pool) → IsForest layout (words_of old.memory.words) → row < length layout.ids → IsInvalid (words_of old.memory.words row g)
    → ((n : ℕ) → n < 2 ^ 27 → n / 512 / 512 ≡ g → ((which n ≡ true) × (walk layout (words_of new.memory.words) row n ≡ answer n)) ⊎ (walk layout (words_of new.memory.words) row n ≡ Unmapped))
    → words_of new.memory.words ≡ put row g word (words_of old.memory.words) → IsLogged (Set row g word) old new
    → StaysInStep layout row which answer old new
stays-root layout row g word which answer old new forest partition invalid gives wrote set e allows o =
    let words = words_of old.memory.words in
    let forest_here : IsForest e.layout words = subst (λ (l : Layout). IsForest l words) (sym allows.same_layout) forest in
    let inside : e.row < length e.layout.ids = rw (allows.same_layout, allows.same_row) partition in
    let invalid_here : IsInvalid (words e.row g) = rw allows.same_row invalid in
    let may : (x : ℕ) → x < 2 ^ 27 → index_1 x ≡ g → MayGive e e.row x (walk e.layout (put e.row g word words) e.row x) = λ x small at.
    let told : walk e.layout (put e.row g word words) e.row x ≡ walk layout (words_of new.memory.words) row x = rw (allows.same_layout, allows.same_row) (ap (λ (w : Words). walk layout w row x) (sym wrote)) in
    elim (gives x small at) [
      | inl h ↦ subst (λ (a : Walked). MayGive e e.row x a) (sym (told ∙ h.1)) (allows.may x small h.0).1
      | inr none ↦ grind (arith, common_steps, nat_tests, invalid-empty e.layout 1 (words e.row g) invalid_here, walk-inside e.layout words e.row x inside, may-now e nothing words old.operations o.orderly e.row x inside small)
    ] in
    let done : IsInStep e nothing (put row g word words) (Set row g word ∷ old.operations) =
    subst (λ r. IsInStep e nothing (put r g word words) (Set r g word ∷ old.operations)) allows.same_row (orderly-root e words old.operations g word forest_here inside invalid_here may o.orderly) in
    record {
      orderly = rw (wrote, set.operations) done;
      counted = counted-op e (Set row g word) old new set o.counted;
    }

-- ---- a root's word that links no table is 0

empty-slot : (layout : Layout) (words : Words) (n : ℕ) (s : Slot) → next_page s ≡ None → at_1 layout words words n s ≡ Unmapped → s ≡ Empty
empty-slot layout words n s e f = grind (arith, common_steps, nat_tests)

pub root-zero : (layout : Layout) (m : Pages) (row g : ℕ) → IsOrderly layout m → row < length layout.ids → g < 512 → table_at layout m.words (Gigabyte row g) ≡ None → m.words row g ≡ 0
root-zero layout m row g orderly inside small none =
    let n = 262144 * g in
    let at : n / 512 / 512 ≡ g = omega arith in
    let gone : walk layout m.words row n ≡ Unmapped = untabled layout m row n orderly inside (omega (arith, small)) (ap (λ x. table_at layout m.words (Gigabyte row x)) at ∙ none) in
    let read : at_1 layout m.words m.words n (slot layout 1 (m.words row (index_1 n))) ≡ Unmapped = sym (walk-inside layout m.words row n inside) ∙ gone in
    let empty : slot layout 1 (m.words row (index_1 n)) ≡ Empty =
    empty-slot layout m.words n (slot layout 1 (m.words row (index_1 n))) (sym (gigabyte-now layout m.words row (index_1 n)) ∙ ap (λ x. table_at layout m.words (Gigabyte row x)) at ∙ none) read in
    orderly.clean (Root row) row g inside (table_at-root layout m.words row) small (ap (λ x. slot layout 1 (m.words row x)) (sym at) ∙ empty)

-- ---- what hangs while the link is not written

pub forest-unlinked : (layout : Layout) (row g j : ℕ) (m : Pages) → IsOrderly layout (linked layout row g j m) → row < length layout.ids → m.words row g ≡ 0 → IsForest layout m.words
forest-unlinked layout row g j m orderly partition e a b q in_a in_b at_a at_b = grind (arith, common_steps, nat_tests, put-twice m.words row g (table_word_of (layout.base + j)) 0, put-there m.words row g 0 e, orderly.forest, hangs-linked)

-- the link is written
pub linked-there : (layout : Layout) (row g j : ℕ) (m : Pages) → m.words row g ≡ table_word_of (layout.base + j) → linked layout row g j m ≡ m
linked-there layout row g j m e = with_put-there m row g (table_word_of (layout.base + j)) e

pub seated-linked : (layout : Layout) (row g j : ℕ) (m : Pages) → linked layout row g j m ≡ m → m.words row g ≡ table_word_of (layout.base + j)
seated-linked layout row g j m same = sym (ap (λ (x : Pages). x.words row g) same) ∙ put-same m.words row g (table_word_of (layout.base + j))

-- nothing is mapped below a level 2 table that is all 0
pub zero-unmapped : (layout : Layout) (row g k : ℕ) (answer : ℕ → View) (m mid : Pages) → row < length layout.ids → g < 512 → m.words row g ≡ table_word_of (layout.base + k) → IsUnderway layout row g k 512 answer m mid → ((i : ℕ) → i < 512 → mid.words k i ≡ 0)
    → IsForest layout mid.words × ((n : ℕ) → n < 2 ^ 27 → n / 512 / 512 ≡ g → walk layout mid.words row n ≡ Unmapped)
zero-unmapped layout row g k answer m mid inside below seated u empty =
    let same : linked layout row g k mid ≡ mid = linked-there layout row g k mid (u.root g ∙ seated) in
    let h : IsUnlink layout row g k (linked layout row g k mid) = zero-unlink inside below u empty in (
      subst (λ (x : Pages). IsForest layout x.words) same u.orderly.forest,
      λ n small at. sym (ap (λ (x : Pages). walk layout x.words row n) same) ∙ unlink-unmapped layout row g k (linked layout row g k mid) h n at,
    )

-- ---- the views before and after a table is taken

pub stays-taken-view : (layout : Layout) (row g k : ℕ) (runs : List PageRun) (access : View) (m : Pages) (h : IsLink layout row g k m) (below : g < 512) (a b : Pool)
    → ((n : ℕ) → n < 2 ^ 27 → answers layout (linked layout row g k (with_mark k true m)).words row n ≡ answers layout m.words row n)
    → StaysInStep layout row (disturbed_below g 512 runs (answers layout (linked layout row g k (with_mark k true m)).words row) (edited runs access (answers layout (linked layout row g k (with_mark k true m)).words row)))
    (λ n. walked n (edited runs access (answers layout (linked layout row g k (with_mark k true m)).words row) n)) a b
    → StaysInStep layout row (λ n. eqb (n / 512 / 512) g && disturbed runs (answers layout m.words row) (edited runs access (answers layout m.words row)) n) (λ n. walked n (edited runs access (answers layout m.words row) n)) a b
stays-taken-view layout row g k runs access m h below a b same stays =
    let v : ℕ → View = answers layout (linked layout row g k (with_mark k true m)).words row in
    let w : ℕ → View = edited runs access v in
    let v2 : ℕ → View = answers layout m.words row in
    let w2 : ℕ → View = edited runs access v2 in
    stays-wider layout row (disturbed_below g 512 runs v w) (λ n. eqb (n / 512 / 512) g && disturbed runs v2 w2 n) (λ n. walked n (w n)) (λ n. walked n (w2 n)) a b stays
    (λ n small is.
    let one : is_mixed v (n / 512) ≡ is_mixed v2 (n / 512) = mixed-same v2 v (n / 512) (λ i lt. same (512 * (n / 512) + i) (omega (arith, small, lt))) in
    let two : is_mixed w (n / 512) ≡ is_mixed w2 (n / 512) = mixed-same w2 w (n / 512) (λ i lt. ap (λ x. cond (covers runs (512 * (n / 512) + i)) access x) (same (512 * (n / 512) + i) (omega (arith, small, lt)))) in
    (rw (← one, ← two) (sym (below-all g runs v w n) ∙ is), inr (ap (λ x. walked n (cond (covers runs n) access x)) (same n small))))

-- what walks give of a page of a gigabyte that had no table
pub gives-new : (g : ℕ) (runs : List PageRun) (access : View) (view : ℕ → View) (n : ℕ) (a : Walked) → n / 512 / 512 ≡ g → view n ≡ None → a ≡ walked n (edited runs access view n)
    → ((eqb (n / 512 / 512) g && disturbed runs view (edited runs access view) n ≡ true) × (a ≡ walked n (edited runs access view n))) ⊎ (a ≡ Unmapped)
gives-new g runs access view n a at none is = grind (arith, common_steps, nat_tests, untouched)

-- the chunks of a gigabyte whose table hangs
pub stays-tabled : (layout : Layout) (row g k : ℕ) (runs : List PageRun) (access : View) (m : Pages) (a b : Pool) → linked layout row g k m ≡ m
    → (IsSeated layout row g k m → AreFree (λ n. eqb (n / 512 / 512) g) runs access (answers layout (linked layout row g k m).words row)
    → StaysInStep layout row (disturbed_below g 512 runs (answers layout (linked layout row g k m).words row) (edited runs access (answers layout (linked layout row g k m).words row))) (λ n. walked n (edited runs access (answers layout (linked layout row g k m).words row) n)) a b)
    → AreFree (λ n. eqb (n / 512 / 512) g) runs access (answers layout m.words row)
    → StaysInStep layout row (λ n. eqb (n / 512 / 512) g && disturbed runs (answers layout m.words row) (edited runs access (answers layout m.words row)) n) (λ n. walked n (edited runs access (answers layout m.words row) n)) a b
stays-tabled layout row g k runs access m a b same stays free =
    let P : Pages → Type 0 = λ x. AreFree (λ n. eqb (n / 512 / 512) g) runs access (answers layout x.words row)
    → StaysInStep layout row (disturbed_below g 512 runs (answers layout x.words row) (edited runs access (answers layout x.words row))) (λ n. walked n (edited runs access (answers layout x.words row) n)) a b in
    let told : P m = subst P same (stays (inl (seated-linked layout row g k m same))) in
    let v : ℕ → View = answers layout m.words row in
    stays-as layout row (disturbed_below g 512 runs v (edited runs access v)) (λ n. eqb (n / 512 / 512) g && disturbed runs v (edited runs access v) n) (λ n. walked n (edited runs access v n)) a b (told free)
    (λ n small. sym (below-all g runs v (edited runs access v) n))

-- a gigabyte that gets its table: the chunks below it, and at last the root's word
pub stays-linked : (layout : Layout) (row g k : ℕ) (runs : List PageRun) (access : View) (m : Pages) (canonical : IsCanonical layout m) (below : g < 512) (h : IsLink layout row g k m) (a b : Pool)
    → ((n : ℕ) → n < 2 ^ 27 → answers layout (linked layout row g k (with_mark k true m)).words row n ≡ answers layout m.words row n)
    → (IsSeated layout row g k (with_mark k true m) → AreFree (λ n. eqb (n / 512 / 512) g) runs access (answers layout (linked layout row g k (with_mark k true m)).words row)
    → StaysInStep layout row (disturbed_below g 512 runs (answers layout (linked layout row g k (with_mark k true m)).words row) (edited runs access (answers layout (linked layout row g k (with_mark k true m)).words row)))
    (λ n. walked n (edited runs access (answers layout (linked layout row g k (with_mark k true m)).words row) n)) a b)
    → AreFree (λ n. eqb (n / 512 / 512) g) runs access (answers layout m.words row)
    → StaysInStep layout row (λ n. eqb (n / 512 / 512) g && disturbed runs (answers layout m.words row) (edited runs access (answers layout m.words row)) n) (λ n. walked n (edited runs access (answers layout m.words row) n)) a b
stays-linked layout row g k runs access m canonical below h a b same stays free =
    stays-taken-view layout row g k runs access m h below a b same
    (stays (inr (root-zero layout m row g canonical.orderly h.partition below h.none)) (λ n small at covered. elim (free n small at covered) [ inl none ↦ inl none | inr none ↦ inr (same n small ∙ none) ]))
