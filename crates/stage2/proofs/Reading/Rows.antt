-- Entries in a row: what they reach, and that no table hangs at them.
use Rattle.std.proofs.Common.{◌≡◌, not, eqb, ℕ, zero, suc, ◌+◌, ◌*◌, ◌%◌, ◌^◌, ◌<◌, ◌≤◌, IsTrue, Bool, true, false, List, [], ◌++◌, Some, None, refl, sym, ap, subst, ◌∙◌, arith}
use Rattle.stage2.proofs.Names.{flat_map, Rights, MemoryKind, Access, Entry, Invalid, Table, Leaf, entry_of, leaf_fields, leaf_word_of, leaf_level, Words, number_of, Cursor, Level, First, TableEntry, pages_at, access_of, table_in, entry_row, left_in, left_of, StandInRow, nat_tests, common_steps}
use Rattle.std.proofs.lemmas.List.Concat.{flat_map-append}
use Rattle.words.specs.declared.word.Entry.TheVariants.{Wrong}
use Rattle.words.proofs.RoundTrip.{word-table, word-leaf, type-leaf, type-table, entry-page, entry-block}
use Rattle.stage2.specs.declared.table_page.Level.TheVariants.{Second, Third}
use Rattle.stage2.specs.Reading.{with_pages, StandBehind}
use Rattle.stage2.proofs.Reading.Cursors.{pages-suc}

-- ---- the words of blocks

-- a block's word is no table's
block-no-table : (base pages word : ℕ) → word % 4 ≡ 1 → table_in base pages (entry_of 2 word) ≡ None
block-no-table base pages word block = go (entry_of 2 word) refl
  where
    go : (e : Entry) → entry_of 2 word ≡ e → table_in base pages e ≡ None
    go Invalid is = refl
    go (Table page) is = grind (arith, common_steps, nat_tests, word-table 2 word page is, type-table page)
    go (Leaf page a) is = refl
    go Wrong is = refl

row-alone : (base pages : ℕ) (words : Words) (first word n : ℕ) → word % 4 ≡ 1 → flat_map (with_pages base pages words) (entry_row Second first word n) ≡ entry_row Second first word n
unfolding entry_row with_pages
row-alone base pages words first word zero block = refl
row-alone base pages words first word (suc n) block = grind (arith, common_steps, nat_tests, block-no-table base pages word block, row-alone base pages words (first + 512) (word + 4096 * 512) n (omega (arith, block)))

-- ---- rows of what is left

module _ (base pages : ℕ) (words : Words) (root second third : Cursor) where
  pub third-row : (row : List TableEntry) (new : Cursor) → left_in words third ≡ row ++ left_in words new → left_of base pages words root second third ≡ row ++ left_of base pages words root second new
  unfolding left_of
  third-row row new is = grind (arith, common_steps, nat_tests)

  pub second-row : (first word n : ℕ) (new : Cursor) → left_in words third ≡ [] → word % 4 ≡ 1 → left_in words second ≡ entry_row Second first word n ++ left_in words new → left_of base pages words root second third ≡ entry_row Second first word n ++ left_of base pages words root new third
  unfolding left_of
  second-row first word n new none block is = grind (arith, common_steps, nat_tests, flat_map-append, row-alone)

-- ---- what is reached

second-leaf : (block : Bool) → 2 ≡ leaf_level block → block ≡ true
second-leaf block e = grind (arith, common_steps, nat_tests)

shifted : (block : Bool) (page steps i : ℕ) (a : Access) → leaf_word_of block page a + 4096 * steps ≡ leaf_word_of block (page + steps) a
unfolding leaf_word_of
shifted block page steps i a = omega arith

-- pages behind a page that is mapped to itself are reached as it is, where their words are those behind its word
pub row-alike : (level : Level) (first word page n : ℕ) (a : Access) → entry_of (number_of level) word ≡ Leaf page a → page ≡ first → first + pages_at level * (n + 1) ≤ 2 ^ 27 → (i : ℕ) → i < n + 1 → access_of (entry_of (number_of level) (word + 4096 * pages_at level * i)) ≡ Some a
row-alike First first word page n a leaf at range i lt = grind (arith, common_steps, nat_tests, word-leaf 1 word page a leaf)
row-alike Second first word page n a leaf at range i lt =
    let w = word-leaf 2 word page a leaf in
    let block = second-leaf w.block w.at_level in
    let spelled : word ≡ leaf_word_of true page a = w.spelled ∙ ap (λ b. leaf_word_of b page a) block in
    let aligned : page % 512 ≡ 0 = w.aligned (subst (λ b. IsTrue b) (sym block) refl) in
    let there : word + 4096 * 512 * i ≡ leaf_word_of true (page + 512 * i) a = ap (λ w. w + 4096 * 512 * i) spelled ∙ (let steps : 4096 * 512 * i ≡ 4096 * (512 * i) = omega arith in ap (λ k. leaf_word_of true page a + k) steps) ∙ shifted true page (512 * i) i a in
    ap (λ w. access_of (entry_of 2 w)) there ∙ ap access_of (entry-block (page + 512 * i) a (omega (arith, at, range, lt)) w.legal (omega (arith, aligned)))
row-alike Third first word page n a leaf at range i lt = grind (arith, common_steps, nat_tests, word-leaf 3 word page a leaf, shifted false page i i a, entry-page)

-- ---- the word of a block or page

fields-small : (block : Bool) (r : Rights) (e : Bool) (k : MemoryKind) → leaf_fields block (record { rights = r; exec = e; kind = k }) < 2 ^ 62
unfolding leaf_fields
fields-small block r e k = grind (arith, common_steps, nat_tests)

fields-odd : (block : Bool) (r : Rights) (e : Bool) (k : MemoryKind) → leaf_fields block (record { rights = r; exec = e; kind = k }) % 2 ≡ 1
unfolding leaf_fields
fields-odd block r e k = grind (arith, common_steps, nat_tests)

pub odd-leaf-word : (block : Bool) (n : ℕ) (a : Access) → leaf_word_of block n a % 2 ≡ 0 → ⊥
unfolding leaf_word_of
odd-leaf-word block n a even = let odd = fields-odd block a.rights a.exec a.kind in omega (arith, odd, even)

pub leaf-small : (level : Level) (word page : ℕ) (a : Access) → entry_of (number_of level) word ≡ Leaf page a → word < 2 ^ 63
unfolding leaf_word_of
leaf-small level word page a leaf =
    let w = word-leaf (number_of level) word page a leaf in
    omega (arith, fields-small w.block a.rights a.exec a.kind, w.spelled, w.in_range)

pub leaf-block : (word page : ℕ) (a : Access) → entry_of 2 word ≡ Leaf page a → word % 4 ≡ 1
leaf-block word page a leaf = grind (arith, common_steps, nat_tests, word-leaf 2 word page a leaf, type-leaf, second-leaf)

-- none behind an entry
pub none-behind : (e : TableEntry) (entries : List TableEntry) → e.first + pages_at e.level ≤ 2 ^ 27 → StandBehind e 0 entries entries
unfolding entry_row
none-behind e entries range = record { entries = refl; range = (let one : pages_at e.level * (0 + 1) ≡ pages_at e.level = omega arith in omega (arith, range, one)) }

-- so many that a table of its level has left
pub stand-behind : (e : TableEntry) (level : Level) (first word count : ℕ) (old new : List TableEntry) → e.level ≡ level → first ≡ e.first + pages_at level → first + pages_at level * count ≤ 2 ^ 27 → word ≡ e.word → old ≡ entry_row level first (word + 4096 * pages_at level) count ++ new → StandBehind e count old new
stand-behind e level first word count old new at from range is so = grind (arith, common_steps, nat_tests, pages-suc)

-- they are reached as it is, where it is mapped to itself
pub in-row-behind : (e : TableEntry) (page count first : ℕ) (a : Access) (differ : Bool) (old new : List TableEntry) → entry_of (number_of e.level) e.word ≡ Leaf page a → first ≡ e.first → differ ≡ not (eqb page first) → differ ≡ false → StandBehind e count old new → StandInRow e a count old new
in-row-behind e page count first a differ old new leaf at is other behind = record {
  behind = behind;
  alike = row-alike e.level e.first e.word page count a leaf ((grind (arith, common_steps, nat_tests)) ∙ at) behind.range;
}

-- and itself
pub in-row-alone : (e : TableEntry) (page : ℕ) (a : Access) (entries : List TableEntry) → entry_of (number_of e.level) e.word ≡ Leaf page a → e.first + pages_at e.level ≤ 2 ^ 27 → StandInRow e a 0 entries entries
in-row-alone e page a entries leaf range = grind (arith, common_steps, nat_tests, none-behind)
