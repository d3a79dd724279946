-- Runs that come one behind another, joined as they come, are the maximal runs.
use Rattle.std.proofs.Common.{◌≡◌, ℕ, zero, suc, ◌+◌, ◌-◌, ◌*◌, ◌<◌, ◌≤◌, Bool, true, false, not, ◌&&◌, cond, eqb, inl, inr, List, [], ◌∷◌, ◌++◌, length, Option, Some, None, is_some, refl, sym, ap, ◌∙◌, arith}
use Rattle.std.specs.List.{flat_map}
use Rattle.std.specs.Option.{option_map_or}
use Rattle.std.proofs.lemmas.List.Concat.{flat_map-append}
use Rattle.base.specs.Access.{Access, View, is_same}
use Rattle.base.specs.Need.{is_mixed, is_reached}
use Rattle.base.specs.Runs.{ValuedRun, valued, with_next, maximal_runs}
use Rattle.base.proofs.MaximalRuns.{with_next-twice}
use Rattle.words.specs.declared.word.Entry.{Entry}
use Rattle.words.specs.declared.word.Entry.TheVariants.{Invalid, Table, Leaf, Wrong}
use Rattle.words.specs.Words.{entry_of, leaf_level}
use Rattle.words.proofs.RoundTrip.{word-leaf}
use Rattle.stage2.specs.declared.table_page.Level.{Level}
use Rattle.stage2.specs.declared.table_page.Level.TheVariants.{First, Second, Third}
use Rattle.stage2.proofs.Reading.Cursors.{pages-suc, steps-suc}
use Rattle.std.proofs.lemmas.Bool.{cases_Bool}
use Rattle.stage2.specs.Level.{number_of}
use Rattle.stage2.specs.Listing.{Listed, each_below, table_entry, leaf_entries, page_entries, chunk_entries, gigabyte_entries, entries}
use Rattle.stage2.specs.Reading.{TableEntry, AlikePages, pages_at, access_of, access_by, entry_row, shown, IsSound, reach_nothing, AreNext}
use Rattle.stage2.specs.Readings.{entries_of, reading_of}
use Rattle.stage2.specs.Tables.{TablesView, view_of, AreCanonical}
use Rattle.stage2.proofs.Reading.Listing.{listed}
use Rattle.audit.specs.Runs.{reached_runs, ReachedRun, AreLined}
use Rattle.audit.specs.Texts.{access_end}
use Rattle.base.proofs.Accesses.{same_self}
use Rattle.audit.proofs.ReachedRuns.{gigabyte-none, chunk-alike, stretch}

-- all runs of a list, one after another
abbrev pub with_all : {A : Type 0} → (A → A → Bool) → List (ValuedRun A) → List (ValuedRun A) → List (ValuedRun A)
with_all same runs [] = runs
with_all same runs (x ∷ xs) = with_all same (with_next same runs x) xs

pub all-append : {A : Type 0} (same : A → A → Bool) (runs xs ys : List (ValuedRun A)) → with_all same runs (xs ++ ys) ≡ with_all same (with_all same runs xs) ys
all-append same runs [] ys = refl
all-append same runs (x ∷ xs) ys = all-append same (with_next same runs x) xs ys

-- ---- the run of an entry

abbrev pub leaf_run : TableEntry → List ReachedRun
leaf_run e = option_map_or (λ a. valued e.first (pages_at e.level) a ∷ []) (access_by e) []

abbrev pub shown_run : Listed → List ReachedRun
shown_run x = option_map_or (λ a. valued x.first (cond (eqb x.level 2) 512 1) a ∷ []) x.leaf []

-- entries by which nothing is reached have none
nothing-more : (e : TableEntry) (es : List TableEntry) (o : View) → access_by e ≡ o → reach_nothing (e ∷ es) ≡ true → (reach_nothing es ≡ true → flat_map leaf_run es ≡ []) → flat_map leaf_run (e ∷ es) ≡ []
nothing-more e es None is none rest =
    ap (λ (o : View). option_map_or (λ a. valued e.first (pages_at e.level) a ∷ []) o [] ++ flat_map leaf_run es) is
    ∙ rest (ap (λ (o : View). not (is_some o) && reach_nothing es) (sym is) ∙ none)
nothing-more e es (Some a) is none rest = let bad : false ≡ true = ap (λ (o : View). not (is_some o) && reach_nothing es) (sym is) ∙ none in absurd (cc)

pub nothing-runs : (es : List TableEntry) → reach_nothing es ≡ true → flat_map leaf_run es ≡ []
nothing-runs [] none = refl
nothing-runs (e ∷ es) none = nothing-more e es (access_by e) refl none (nothing-runs es)

-- the first of a row
row-first : (runs : List ReachedRun) (level : Level) (first word n : ℕ) (a : Access) → ((i : ℕ) → i < suc n → access_of (entry_of (number_of level) (word + 4096 * pages_at level * i)) ≡ Some a) → with_all is_same runs (flat_map leaf_run (entry_row level first word (suc n))) ≡ with_all is_same (with_next is_same runs (valued first (pages_at level) a)) (flat_map leaf_run (entry_row level (first + pages_at level) (word + 4096 * pages_at level) n))
unfolding entry_row
row-first runs level first word n a alike =
    let zero_steps : word ≡ word + 4096 * pages_at level * 0 = omega arith in
    let here : access_of (entry_of (number_of level) word) ≡ Some a = ap (λ w. access_of (entry_of (number_of level) w)) zero_steps ∙ alike 0 (omega arith) in
    ap (λ (o : View). with_all is_same runs (option_map_or (λ a. valued first (pages_at level) a ∷ []) o [] ++ flat_map leaf_run (entry_row level (first + pages_at level) (word + 4096 * pages_at level) n))) here

row-end : (runs : List ReachedRun) (level : Level) (first word : ℕ) (a : Access) → with_all is_same (with_next is_same runs (valued first (pages_at level) a)) (flat_map leaf_run (entry_row level (first + pages_at level) (word + 4096 * pages_at level) 0)) ≡ with_next is_same runs (valued first (pages_at level * 1) a)
unfolding entry_row
row-end runs level first word a = let one : pages_at level ≡ pages_at level * 1 = omega arith in ap (λ k. with_next is_same runs (valued first k a)) one

-- a row of entries that are reached alike is one run
pub row-run : (runs : List ReachedRun) (level : Level) (first word n : ℕ) (a : Access) → ((i : ℕ) → i < suc n → access_of (entry_of (number_of level) (word + 4096 * pages_at level * i)) ≡ Some a) → with_all is_same runs (flat_map leaf_run (entry_row level first word (suc n))) ≡ with_next is_same runs (valued first (pages_at level * suc n) a)
row-run runs level first word zero a alike = row-first runs level first word 0 a alike ∙ row-end runs level first word a
row-run runs level first word (suc m) a alike =
    let span = pages_at level in
    let sum : span + span * suc m ≡ span * suc (suc m) = sym (pages-suc level (suc m)) in
    row-first runs level first word (suc m) a alike
    ∙ row-run (with_next is_same runs (valued first span a)) level (first + span) (word + 4096 * span) m a (λ i lt.
    let there : word + 4096 * span + 4096 * span * i ≡ word + 4096 * span * suc i = omega (arith, steps-suc level i) in
    ap (λ w. access_of (entry_of (number_of level) w)) there ∙ alike (suc i) (omega (arith, lt)))
    ∙ with_next-twice is_same runs first span (span * suc m) a (same_self a)
    ∙ ap (λ k. with_next is_same runs (valued first k a)) sum

-- ---- the views

module _ (view : ℕ → View) where
  abbrev runs-to : ℕ → List ReachedRun
  runs-to n = maximal_runs is_same view n

  each-run : (h : ℕ → List Listed) (b s n : ℕ) → ((i : ℕ) → i < n → with_all is_same (runs-to (b + s * i)) (flat_map shown_run (h i)) ≡ runs-to (b + s * suc i)) → with_all is_same (runs-to b) (flat_map shown_run (each_below h n)) ≡ runs-to (b + s * n)
  unfolding each_below
  each-run h b s zero each = let start : b ≡ b + s * 0 = omega arith in ap runs-to start
  each-run h b s (suc n) each =
      ap (λ (xs : List ReachedRun). with_all is_same (runs-to b) xs) (flat_map-append shown_run (each_below h n) (h n))
      ∙ all-append is_same (runs-to b) (flat_map shown_run (each_below h n)) (flat_map shown_run (h n))
      ∙ ap (λ (rs : List ReachedRun). with_all is_same rs (flat_map shown_run (h n))) (each-run h b s n (λ i lt. each i (omega (arith, lt))))
      ∙ each n (omega arith)

  one-run : (rs : List ReachedRun) (level first : ℕ) (o : View) → with_all is_same rs (flat_map shown_run (leaf_entries level first o)) ≡ option_map_or (λ a. with_next is_same rs (valued first (cond (eqb level 2) 512 1) a)) o rs
  one-run rs level first None = refl
  one-run rs level first (Some a) = refl

  page-run : (m n k : ℕ) → m ≡ n → k ≡ suc n → with_all is_same (runs-to m) (flat_map shown_run (leaf_entries 3 n (view n))) ≡ runs-to k
  unfolding maximal_runs
  page-run m n k at next =
      ap (λ x. with_all is_same (runs-to x) (flat_map shown_run (leaf_entries 3 n (view n)))) at
      ∙ one-run (runs-to n) 3 n (view n) ∙ ap runs-to (sym next)

  chunk-run : (c : ℕ) → with_all is_same (runs-to (512 * c)) (flat_map shown_run (chunk_entries view c)) ≡ runs-to (512 * c + 512)
  unfolding chunk_entries page_entries
  chunk-run c = elim (cases_Bool (is_mixed view c)) [
    | inl mixed ↦
        let end : 512 * c + 1 * 512 ≡ 512 * c + 512 = omega arith in
        ap (λ b. with_all is_same (runs-to (512 * c)) (flat_map shown_run (cond b (table_entry 2 (512 * c) ∷ page_entries view c) (leaf_entries 2 (512 * c) (view (512 * c)))))) mixed
        ∙ each-run (λ i. leaf_entries 3 (512 * c + i) (view (512 * c + i))) (512 * c) 1 512 (λ i lt. page-run (512 * c + 1 * i) (512 * c + i) (512 * c + 1 * suc i) (omega arith) (omega arith))
        ∙ ap runs-to end
    | inr alike ↦
        let size : 512 ≡ 512 * c + 512 - 512 * c = omega arith in
        ap (λ b. with_all is_same (runs-to (512 * c)) (flat_map shown_run (cond b (table_entry 2 (512 * c) ∷ page_entries view c) (leaf_entries 2 (512 * c) (view (512 * c)))))) alike
        ∙ one-run (runs-to (512 * c)) 2 (512 * c) (view (512 * c))
        ∙ ap (λ k. option_map_or (λ a. with_next is_same (runs-to (512 * c)) (valued (512 * c) k a)) (view (512 * c)) (runs-to (512 * c))) size
        ∙ stretch view (512 * c) (512 * c + 512) (view (512 * c)) (omega arith) (λ n le lt. chunk-alike view c n alike le lt)
  ]

  gigabyte-run : (g : ℕ) → with_all is_same (runs-to (262144 * g)) (flat_map shown_run (gigabyte_entries view g)) ≡ runs-to (262144 * g + 262144)
  unfolding gigabyte_entries
  gigabyte-run g = elim (cases_Bool (is_reached view g)) [
    | inl reached ↦
        let end : 262144 * g + 512 * 512 ≡ 262144 * g + 262144 = omega arith in
        ap (λ b. with_all is_same (runs-to (262144 * g)) (flat_map shown_run (cond b (table_entry 1 (262144 * g) ∷ each_below (λ i. chunk_entries view (512 * g + i)) 512) []))) reached
        ∙ each-run (λ i. chunk_entries view (512 * g + i)) (262144 * g) 512 512 (λ i lt.
        let from : 262144 * g + 512 * i ≡ 512 * (512 * g + i) = omega arith in
        let to : 512 * (512 * g + i) + 512 ≡ 262144 * g + 512 * suc i = omega arith in
        ap (λ n. with_all is_same (runs-to n) (flat_map shown_run (chunk_entries view (512 * g + i)))) from ∙ chunk-run (512 * g + i) ∙ ap runs-to to)
        ∙ ap runs-to end
    | inr none ↦
        ap (λ b. with_all is_same (runs-to (262144 * g)) (flat_map shown_run (cond b (table_entry 1 (262144 * g) ∷ each_below (λ i. chunk_entries view (512 * g + i)) 512) []))) none
        ∙ gigabyte-none view g none
  ]

  all-runs : with_all is_same [] (flat_map shown_run (entries view)) ≡ reached_runs view
  unfolding entries maximal_runs
  all-runs = each-run (gigabyte_entries view) 0 262144 512 (λ g lt.
      let from : 0 + 262144 * g ≡ 262144 * g = omega arith in
      let to : 262144 * g + 262144 ≡ 0 + 262144 * suc g = omega arith in
      ap (λ n. with_all is_same (runs-to n) (flat_map shown_run (gigabyte_entries view g))) from ∙ gigabyte-run g ∙ ap runs-to to)

-- ---- canonical tables

first-access : (word : ℕ) (o : View) → access_of (entry_of 1 word) ≡ o → o ≡ None
first-access word None is = refl
first-access word (Some a) is = absurd (go (entry_of 1 word) refl is)
  where
    go : (e : Entry) → entry_of 1 word ≡ e → access_of e ≡ Some a → ⊥
    go Invalid at some = cc
    go (Table page) at some = cc
    go (Leaf page b) at some = let w = word-leaf 1 word page b at in level w.block w.at_level
      where
        level : (block : Bool) → 1 ≡ leaf_level block → ⊥
        level true e = omega arith
        level false e = omega arith
    go Wrong at some = cc

run-shown : (e : TableEntry) → IsSound e → leaf_run e ≡ shown_run (shown e)
run-shown e sound = go e.level refl
  where
    runs-at : ℕ → List ReachedRun
    runs-at k = option_map_or (λ a. valued e.first k a ∷ []) (access_by e) []

    go : (level : Level) → e.level ≡ level → leaf_run e ≡ shown_run (shown e)
    go First at =
        let none : access_by e ≡ None = first-access e.word (access_by e) (ap (λ l. access_of (entry_of (number_of l) e.word)) (sym at)) in
        ap (λ (o : View). option_map_or (λ a. valued e.first (pages_at e.level) a ∷ []) o []) none
        ∙ ap (λ (o : View). option_map_or (λ a. valued e.first (cond (eqb (number_of e.level) 2) 512 1) a ∷ []) o []) (sym none)
    go Second at = ap (λ l. runs-at (pages_at l)) at ∙ ap (λ l. runs-at (cond (eqb (number_of l) 2) 512 1)) (sym at)
    go Third at = ap (λ l. runs-at (pages_at l)) at ∙ ap (λ l. runs-at (cond (eqb (number_of l) 2) 512 1)) (sym at)

-- the runs of all entries, joined as they come
pub entries-runs : (t : TablesView) (p : ℕ) → AreCanonical t → with_all is_same [] (flat_map leaf_run (entries_of (reading_of t) p)) ≡ reached_runs (view_of t p)
entries-runs t p canonical = ap (λ (xs : List ReachedRun). with_all is_same [] xs) (listed leaf_run shown_run t p run-shown canonical) ∙ all-runs (view_of t p)

-- ---- what is left of the entries

-- the lines of some runs are appended, and with those of the entries that are left they are all runs
pub record IsMapping (before text : List ℕ) (count : ℕ) (last : Option ReachedRun) (left : List TableEntry) (all : List ReachedRun) : Type 0 where
  pub runs : List ReachedRun
  pub lined : AreLined access_end before text count last runs
  pub whole : with_all is_same runs (flat_map leaf_run left) ≡ all
  pub few : count ≤ length text

-- the next pages that are reached, behind these runs
pub next-run : (rs : List ReachedRun) (old new : List TableEntry) (pages : AlikePages) → AreNext old pages new → with_all is_same (with_next is_same rs (record { run = pages.pages; value = pages.access })) (flat_map leaf_run new) ≡ with_all is_same rs (flat_map leaf_run old)
next-run rs old new pages so =
    let first = pages.pages.first in
    let row = entry_row so.level first pages.word so.count in
    sym (ap (λ (es : List TableEntry). with_all is_same rs (flat_map leaf_run es)) so.follow
    ∙ ap (λ (xs : List ReachedRun). with_all is_same rs xs) (flat_map-append leaf_run so.tables (row ++ new) ∙ ap (λ (xs : List ReachedRun). xs ++ flat_map leaf_run (row ++ new)) (nothing-runs so.tables so.reach) ∙ flat_map-append leaf_run row new)
    ∙ all-append is_same rs (flat_map leaf_run row) (flat_map leaf_run new)
    ∙ ap (λ (xs : List ReachedRun). with_all is_same xs (flat_map leaf_run new)) (go so.count so.some so.pages so.alike))
  where
    go : (n : ℕ) → 0 < n → pages.pages.count ≡ pages_at so.level * n → ((i : ℕ) → i < n → access_of (entry_of (number_of so.level) (pages.word + 4096 * pages_at so.level * i)) ≡ Some pages.access) → with_all is_same rs (flat_map leaf_run (entry_row so.level pages.pages.first pages.word n)) ≡ with_next is_same rs (record { run = pages.pages; value = pages.access })
    go zero some size alike = absurd (omega (arith, some))
    go (suc n) some size alike = row-run rs so.level pages.pages.first pages.word n pages.access alike ∙ ap (λ k. with_next is_same rs (valued pages.pages.first k pages.access)) (sym size)

-- behind the last entry by which something is reached
pub no-more : (runs all : List ReachedRun) (left : List TableEntry) → with_all is_same runs (flat_map leaf_run left) ≡ all → reach_nothing left ≡ true → runs ≡ all
no-more runs all left whole none = ap (λ (xs : List ReachedRun). with_all is_same runs xs) (sym (nothing-runs left none)) ∙ whole
