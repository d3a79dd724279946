-- The entries of canonical tables are those that the views need.
use Rattle.std.proofs.Common.{◌≡◌, ℕ, zero, suc, ◌+◌, ◌*◌, ◌/◌, ◌%◌, ◌<◌, ◌≤◌, Bool, true, false, cond, List, [], ◌∷◌, ◌++◌, Option, Some, None, is_some, length, refl, sym, ap, ap₂, ◌∙◌, append-nil, map, map-id, arith, eq-eqb}
use Rattle.stage2.proofs.Names.{flat_map, option_map_or, View, row_of, is_mixed, is_reached, Entry, entry_of, leaf_level, Words, words_of, leaf_for, entry_for_table, word_at, number_of, each_below, page_entries, chunk_entries, gigabyte_entries, entries, answer_of, TableEntry, pages_at, entry_at, entries_from, table_entries, access_of, table_in, with_chunks, tree_entries, shown, entries_of, reading_of, Layout, slot, slot_from, view_of, AreCanonical, Root, Gigabyte, Chunk, table_at, next_page, at_2, Level, First, nat_tests, common_steps}
use Rattle.std.proofs.lemmas.List.Concat.{flat_map-append}
use Rattle.words.proofs.RoundTrip.{entry-invalid}
use Rattle.stage2.specs.Listing.{Listed, table_entry, leaf_entries}
use Rattle.stage2.specs.Reading.{with_pages, IsSound}
use Rattle.stage2.specs.Tables.{TablesView}
use Rattle.stage2.specs.declared.table_page.Level.TheVariants.{Second, Third}
use Rattle.stage2.proofs.Reading.Rows.{odd-leaf-word}
use Rattle.stage2.proofs.Counting.Needs.{reached-none}
use Rattle.stage2.proofs.Tree.Rows.{no-row}
use Rattle.stage2.proofs.Tree.WalkFrame.{table_at-chunk_in, page-walk, walk-gigabyte}

-- ---- lists that are made word by word

module _ {A : Type 0} (w : TableEntry → List A) (v : Listed → List A) (h : ℕ → List Listed) (level : Level) (first : ℕ) (word : ℕ → ℕ) where
  from-each : (n i : ℕ) → ((k : ℕ) → i ≤ k → k < i + n → flat_map w (entry_at level (first + pages_at level * k) (word k)) ≡ flat_map v (h k)) → flat_map v (each_below h i) ++ flat_map w (entries_from level first word i n) ≡ flat_map v (each_below h (i + n))
  unfolding entries_from each_below
  from-each zero i same = grind (arith, common_steps, nat_tests)
  from-each (suc n) i same = grind (arith, common_steps, nat_tests, flat_map-append, flat_map-append v (each_below h i) (h i), from-each n (suc i) (λ k le lt. same k (omega (arith, le)) (omega (arith, lt))))

  table-each : ((k : ℕ) → k < 512 → flat_map w (entry_at level (first + pages_at level * k) (word k)) ≡ flat_map v (h k)) → flat_map w (table_entries level first word) ≡ flat_map v (each_below h 512)
  unfolding each_below
  table-each same = from-each 512 0 (λ k le lt. same k (omega (arith, lt)))

flat-flat : {A : Type 0} (f : TableEntry → List A) (u : TableEntry → List TableEntry) (xs : List TableEntry) → flat_map f (flat_map u xs) ≡ flat_map (λ e. flat_map f (u e)) xs
flat-flat f u [] = refl
flat-flat f u (x ∷ xs) = flat_map-append f (u x) (flat_map u xs) ∙ ap (λ (ys : List _). flat_map f (u x) ++ ys) (flat-flat f u xs)

-- ---- what a word is

-- a word that points at a table reaches nothing
no-access : (layout : Layout) (e : Entry) (k : ℕ) → next_page (slot_from layout e) ≡ Some k → access_of e ≡ None
no-access layout e k is = grind (arith, common_steps, nat_tests)

same-table : (layout : Layout) (e : Entry) → table_in layout.base layout.pages e ≡ next_page (slot_from layout e)
same-table layout e = grind (arith, common_steps, nat_tests)

-- its bit 0 is 1
odd-table : (layout : Layout) (level word k : ℕ) → next_page (slot layout level word) ≡ Some k → word % 2 ≡ 0 → ⊥
unfolding slot
odd-table layout level word k is even = grind (arith, common_steps, nat_tests, entry-invalid)

-- ---- one word

odd-at : {A : Type 0} (w : TableEntry → List A) (level : Level) (first word : ℕ) → (word % 2 ≡ 0 → ⊥) → flat_map w (entry_at level first word) ≡ w (record { level = level; first = first; word = word })
odd-at w level first word odd = grind (arith, common_steps, nat_tests)

even-at : {A : Type 0} (w : TableEntry → List A) (level : Level) (first word : ℕ) → word % 2 ≡ 0 → flat_map w (entry_at level first word) ≡ []
even-at w level first word even = ap (λ b. flat_map w (cond b [] (record { level = level; first = first; word = word } ∷ []))) (eq-eqb (word % 2) 0 even)

module _ {A : Type 0} (f : TableEntry → List A) (v : Listed → List A) (agree : (e : TableEntry) → IsSound e → f e ≡ v (shown e)) where
  -- a block or a page, or a word that is 0
  leaf-step : (level : Level) (block : Bool) (w : TableEntry → List A) (n word : ℕ) (view : View) → number_of level ≡ leaf_level block → w (record { level = level; first = n; word = word }) ≡ f (record { level = level; first = n; word = word }) → word ≡ leaf_for block n view → access_of (entry_of (number_of level) word) ≡ view → flat_map w (entry_at level n word) ≡ flat_map v (leaf_entries (number_of level) n view)
  leaf-step level block w n word view at alone is reads = grind (arith, common_steps, nat_tests, even-at, odd-at, odd-leaf-word)

  -- the word of a table
  table-step : (level : Level) (n word : ℕ) → (level ≡ Third → ⊥) → access_of (entry_of (number_of level) word) ≡ None → f (record { level = level; first = n; word = word }) ≡ v (table_entry (number_of level) n)
  table-step level n word upper reads = grind (arith, common_steps, nat_tests)

  first-third : First ≡ Third → ⊥
  first-third bad = cc

  -- ---- canonical tables

  module _ (t : TablesView) (p : ℕ) (canonical : AreCanonical t) (here : row_of t.layout.ids p < length t.layout.ids) where
    abbrev words : Words
    words = words_of t.pool.memory.words

    abbrev row : ℕ
    row = row_of t.layout.ids p

    abbrev view : ℕ → View
    view = view_of t p

    page-reads : (c k i : ℕ) → table_at t.layout words (Chunk row c) ≡ Some k → i < 512 → access_of (entry_of 3 (words k i)) ≡ view (512 * c + i)
    unfolding slot
    page-reads c k i hangs small = sym (ap answer_of (page-walk t.layout words row c i k here small hangs) ∙ (grind (arith, common_steps, nat_tests)))

    -- the pages of a level 3 table
    pages-listed : (c k : ℕ) → c < 262144 → table_at t.layout words (Chunk row c) ≡ Some k → flat_map f (table_entries Third (512 * c) (words k)) ≡ flat_map v (page_entries view c)
    unfolding page_entries word_at
    pages-listed c k small hangs =
        table-each f v (λ i. leaf_entries 3 (512 * c + i) (view (512 * c + i))) Third (512 * c) (words k) (λ i lt.
        let n : 512 * c + 1 * i ≡ 512 * c + i = omega arith in
        ap (λ m. flat_map f (entry_at Third m (words k i))) n
        ∙ leaf-step Third false f (512 * c + i) (words k i) (view (512 * c + i)) refl refl (canonical.words (Chunk row c) k i (here, small) hangs lt) (page-reads c k i hangs lt))

    abbrev with_pages_of : TableEntry → List A
    with_pages_of e = flat_map f (with_pages t.layout.base t.layout.pages words e)

    block-reads : (c j : ℕ) → table_at t.layout words (Gigabyte row (c / 512)) ≡ Some j → next_page (slot t.layout 2 (words j (c % 512))) ≡ None → access_of (entry_of 2 (words j (c % 512))) ≡ view (512 * c)
    unfolding slot
    block-reads c j hangs none =
        let n = 512 * c in
        let chunk : n / 512 ≡ c = omega arith in
        let there : table_at t.layout words (Gigabyte row (n / 512 / 512)) ≡ Some j = ap (λ x. table_at t.layout words (Gigabyte row (x / 512))) chunk ∙ hangs in
        sym (ap answer_of (walk-gigabyte t.layout words row n j here there ∙ ap (λ x. at_2 t.layout words n (slot t.layout 2 (words j (x % 512)))) chunk)
        ∙ (grind (arith, common_steps, nat_tests)))

    -- a word of a level 2 table, and the table below it
    chunk-listed : (c j : ℕ) → c < 262144 → table_at t.layout words (Gigabyte row (c / 512)) ≡ Some j → flat_map with_pages_of (entry_at Second (512 * c) (words j (c % 512))) ≡ flat_map v (chunk_entries view c)
    unfolding chunk_entries word_at slot with_pages
    chunk-listed c j small hangs = go (table_at t.layout words (Chunk row c)) refl
      where
        e : TableEntry
        e = record { level = Second; first = 512 * c; word = words j (c % 512) }

        below : (o : Option ℕ) → table_in t.layout.base t.layout.pages (entry_of 2 (words j (c % 512))) ≡ o → with_pages_of e ≡ f e ++ flat_map f (option_map_or (λ k. table_entries Third (512 * c) (words k)) o [])
        below o is = ap (λ o. f e ++ flat_map f (option_map_or (λ k. table_entries Third (512 * c) (words k)) o [])) is

        go : (o : Option ℕ) → table_at t.layout words (Chunk row c) ≡ o → flat_map with_pages_of (entry_at Second (512 * c) (words j (c % 512))) ≡ flat_map v (chunk_entries view c)
        go None is =
            let none = sym (table_at-chunk_in t.layout words row c j hangs) ∙ is in
            let unmixed : is_mixed view c ≡ false = sym (canonical.trees.orderly.mixed row c here small) ∙ ap (λ (o : Option ℕ). is_some o) is in
            let same : 512 * (c / 512) + c % 512 ≡ c = omega arith in
            let entry = λ (x : ℕ). entry_for_table t.layout (table_at t.layout words (Chunk row x)) (leaf_for true (512 * x) (view (512 * x))) in
            let holds : words j (c % 512) ≡ leaf_for true (512 * c) (view (512 * c)) = canonical.words (Gigabyte row (c / 512)) j (c % 512) (here, omega (arith, small)) hangs (omega arith) ∙ ap entry same ∙ ap (λ (o : Option ℕ). entry_for_table t.layout o (leaf_for true (512 * c) (view (512 * c)))) is in
            let alone : with_pages_of e ≡ f e = below None (same-table t.layout (entry_of 2 (words j (c % 512))) ∙ none) ∙ append-nil (f e) in
            leaf-step Second true with_pages_of (512 * c) (words j (c % 512)) (view (512 * c)) refl alone holds (block-reads c j hangs none)
            ∙ ap (λ b. flat_map v (cond b (table_entry 2 (512 * c) ∷ page_entries view c) (leaf_entries 2 (512 * c) (view (512 * c))))) (sym unmixed)
        go (Some k) is = grind (arith, common_steps, nat_tests, table_at-chunk_in t.layout words row c j hangs, canonical.trees.orderly.mixed row c here small, odd-at, odd-table, below, same-table t.layout (entry_of 2 (words j (c % 512))), table-step, no-access, pages-listed c k small is)

    abbrev with_chunks_of : TableEntry → List A
    with_chunks_of e = flat_map f (with_chunks t.layout.base t.layout.pages words e)

    chunks-listed : (g j : ℕ) → g < 512 → table_at t.layout words (Gigabyte row g) ≡ Some j → flat_map with_pages_of (table_entries Second (262144 * g) (words j)) ≡ flat_map v (each_below (λ i. chunk_entries view (512 * g + i)) 512)
    chunks-listed g j small hangs =
        table-each with_pages_of v (λ i. chunk_entries view (512 * g + i)) Second (262144 * g) (words j) (λ i lt.
        let c = 512 * g + i in
        let gigabyte : c / 512 ≡ g = omega (arith, lt) in
        let index : c % 512 ≡ i = omega (arith, lt) in
        let first : 262144 * g + 512 * i ≡ 512 * c = omega arith in
        ap₂ (λ (n k : ℕ). flat_map with_pages_of (entry_at Second n (words j k))) first (sym index)
        ∙ chunk-listed c j (omega (arith, small, lt)) (ap (λ x. table_at t.layout words (Gigabyte row x)) gigabyte ∙ hangs))

    -- a word of the root, and the tables below it
    gigabyte-listed : (g : ℕ) → g < 512 → flat_map with_chunks_of (entry_at First (262144 * g) (words row g)) ≡ flat_map v (gigabyte_entries view g)
    unfolding gigabyte_entries word_at slot with_chunks table_at
    gigabyte-listed g small = go (table_at t.layout words (Gigabyte row g)) refl
      where
        e : TableEntry
        e = record { level = First; first = 262144 * g; word = words row g }

        below : (o : Option ℕ) → table_in t.layout.base t.layout.pages (entry_of 1 (words row g)) ≡ o → with_chunks_of e ≡ f e ++ flat_map f (option_map_or (λ j. flat_map (with_pages t.layout.base t.layout.pages words) (table_entries Second (262144 * g) (words j))) o [])
        below o is = ap (λ o. f e ++ flat_map f (option_map_or (λ j. flat_map (with_pages t.layout.base t.layout.pages words) (table_entries Second (262144 * g) (words j))) o [])) is

        go : (o : Option ℕ) → table_at t.layout words (Gigabyte row g) ≡ o → flat_map with_chunks_of (entry_at First (262144 * g) (words row g)) ≡ flat_map v (gigabyte_entries view g)
        go None is =
            let unreached : is_reached view g ≡ false = sym (canonical.trees.reached row g here small) ∙ ap (λ (o : Option ℕ). is_some o) is in
            even-at with_chunks_of First (262144 * g) (words row g) (omega (arith, canonical.words (Root row) row g here refl small ∙ ap (λ (o : Option ℕ). entry_for_table t.layout o 0) is))
            ∙ ap (λ b. flat_map v (cond b (table_entry 1 (262144 * g) ∷ each_below (λ i. chunk_entries view (512 * g + i)) 512) [])) (sym unreached)
        go (Some j) is =
            let reached : is_reached view g ≡ true = sym (canonical.trees.reached row g here small) ∙ ap (λ (o : Option ℕ). is_some o) is in
            odd-at with_chunks_of First (262144 * g) (words row g) (odd-table t.layout 1 (words row g) j is)
            ∙ below (Some j) (same-table t.layout (entry_of 1 (words row g)) ∙ is)
            ∙ ap₂ (λ (xs ys : List A). xs ++ ys) (table-step First (262144 * g) (words row g) first-third (no-access t.layout (entry_of 1 (words row g)) j is))
            (flat-flat f (with_pages t.layout.base t.layout.pages words) (table_entries Second (262144 * g) (words j)) ∙ chunks-listed g j small is)
            ∙ ap (λ b. flat_map v (cond b (table_entry 1 (262144 * g) ∷ each_below (λ i. chunk_entries view (512 * g + i)) 512) [])) (sym reached)

    tree-listed : flat_map f (tree_entries t.layout.base t.layout.pages words row) ≡ flat_map v (entries view)
    unfolding tree_entries entries
    tree-listed =
        flat-flat f (with_chunks t.layout.base t.layout.pages words) (table_entries First 0 (words row))
        ∙ table-each with_chunks_of v (gigabyte_entries view) First 0 (words row) (λ g lt. let at : 0 + 262144 * g ≡ 262144 * g = omega arith in ap (λ n. flat_map with_chunks_of (entry_at First n (words row g))) at ∙ gigabyte-listed g lt)

-- ---- a partition that has no row

each-nil : {A : Type 0} (h : ℕ → List A) (n : ℕ) → ((i : ℕ) → i < n → h i ≡ []) → each_below h n ≡ []
unfolding each_below
each-nil h zero none = refl
each-nil h (suc n) none = ap₂ (λ (xs ys : List _). xs ++ ys) (each-nil h n (λ i lt. none i (omega (arith, lt)))) (none n (omega arith))

none-listed : (view : ℕ → View) → ((n : ℕ) → view n ≡ None) → entries view ≡ []
unfolding entries gigabyte_entries
none-listed view none = each-nil (gigabyte_entries view) 512 (λ g lt. ap (λ b. cond b (table_entry 1 (262144 * g) ∷ each_below (λ i. chunk_entries view (512 * g + i)) 512) []) (reached-none view g (λ i small. none (262144 * g + i))))

-- what is said of each entry, by its word or by what it shows, is said of all in order
pub listed : {A : Type 0} (f : TableEntry → List A) (v : Listed → List A) (t : TablesView) (p : ℕ) → ((e : TableEntry) → IsSound e → f e ≡ v (shown e)) → AreCanonical t → flat_map f (entries_of (reading_of t) p) ≡ flat_map v (entries (view_of t p))
listed f v t p agree canonical = grind (arith, common_steps, nat_tests, tree-listed, none-listed, no-row)

each-map : {A B : Type 0} (h : A → B) (xs : List A) → flat_map (λ x. h x ∷ []) xs ≡ map h xs
each-map h xs = grind (arith, common_steps, nat_tests)

-- the entries show what the views need
pub all-shown : (t : TablesView) (p : ℕ) → AreCanonical t → map shown (entries_of (reading_of t) p) ≡ entries (view_of t p)
all-shown t p canonical =
    sym (each-map shown (entries_of (reading_of t) p))
    ∙ listed (λ e. shown e ∷ []) (λ x. x ∷ []) t p (λ e sound. refl) canonical
    ∙ each-map (λ (x : Listed). x) (entries (view_of t p)) ∙ map-id (entries (view_of t p))
