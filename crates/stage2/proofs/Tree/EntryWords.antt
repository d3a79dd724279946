-- The words of tables that hang are those of their entries.
use Rattle.std.proofs.Common.{◌≡◌, ℕ, ◌+◌, ◌*◌, ◌%◌, ◌^◌, ◌<◌, true, false, is_some, Some, length, refl, arith}
use Rattle.stage2.proofs.Names.{Access, Entry, Leaf, entry_of, leaf_word_of, Pages, Layout, Slot, Empty, Next, Maps, Bad, slot, slot_from, at_2, at_3, Place, Root, Gigabyte, Chunk, next_page, table_at, IsPlace, IsOrderly, answer_of, leaf_for, entry_for_table, word_at, nat_tests, common_steps}
use Rattle.words.proofs.RoundTrip.{word-leaf, type-leaf}
use Rattle.stage2.proofs.Tree.WalkFrame.{chunk-table, page-walk, table_at-root}
use Rattle.stage2.proofs.Tree.KnownWords.{wrong-root, root-known, chunk-walk, second-known}
use Rattle.stage2.proofs.Walkers.InStep.{gigabyte-now}
use Rattle.stage2.proofs.Editing.Gigabyte.{table-word}

leaf-entry : (layout : Layout) (n : ℕ) (a : Access) (e : Entry) → slot_from layout e ≡ Maps n a → e ≡ Leaf n a
leaf-entry layout n a e is = grind (arith, common_steps, nat_tests)

block-word : (layout : Layout) (n word : ℕ) (a : Access) → slot layout 2 word ≡ Maps n a → word ≡ leaf_word_of true n a
unfolding slot
block-word layout n word a is = grind (arith, common_steps, nat_tests, word-leaf 2 word n a (leaf-entry layout n a (entry_of 2 word) is), leaf-entry layout n a (entry_of 2 word) is)

-- which is none of a table
block-points : (layout : Layout) (n word : ℕ) (a : Access) → slot layout 2 word ≡ Maps n a → word % 4 ≡ 3 → ⊥
unfolding slot
block-points layout n word a is points = grind (arith, common_steps, nat_tests, word-leaf 2 word n a (leaf-entry layout n a (entry_of 2 word) is), leaf-entry layout n a (entry_of 2 word) is, type-leaf)

-- a block begins at a multiple of 512
pub block-page : (layout : Layout) (n word : ℕ) (a : Access) → slot layout 2 word ≡ Maps n a → (x : ℕ) → n + x % 512 < 2 ^ 27
unfolding slot
block-page layout n word a is x = grind (arith, common_steps, nat_tests, word-leaf 2 word n a (leaf-entry layout n a (entry_of 2 word) is), leaf-entry layout n a (entry_of 2 word) is)

page-word : (layout : Layout) (n word : ℕ) (a : Access) → slot layout 3 word ≡ Maps n a → word ≡ leaf_word_of false n a
unfolding slot
page-word layout n word a is = grind (arith, common_steps, nat_tests, word-leaf 3 word n a (leaf-entry layout n a (entry_of 3 word) is), leaf-entry layout n a (entry_of 3 word) is)

module _ (layout : Layout) (m : Pages) (h : IsOrderly layout m) where
  -- ---- a root

  root-by : (row g : ℕ) → row < length layout.ids → g < 512 → (s : Slot) → slot layout 1 (m.words row g) ≡ s → m.words row g ≡ entry_for_table layout (next_page s) 0
  root-by row g inside below Empty is = h.clean (Root row) row g inside (table_at-root layout m.words row) below is
  root-by row g inside below (Next k) is = table-word layout 1 (m.words row g) k is
  root-by row g inside below (Maps p a) is = absurd (wrong-root layout m h row g inside below (Maps p a) is refl)
  root-by row g inside below Bad is = absurd (root-known layout m h row g inside below is)

  -- ---- a level 2 table

  gigabyte-by : (row g i q : ℕ) → row < length layout.ids → g < 512 → i < 512 → table_at layout m.words (Gigabyte row g) ≡ Some q → (s : Slot) → slot layout 2 (m.words q i) ≡ s
      → m.words q i ≡ entry_for_table layout (next_page s) (leaf_for true (512 * (512 * g + i)) (answer_of (at_2 layout m.words (512 * (512 * g + i)) s)))
  gigabyte-by row g i q inside below small table Empty is = h.clean (Gigabyte row g) q i (inside, below) table small is
  gigabyte-by row g i q inside below small table (Next k) is = table-word layout 2 (m.words q i) k is
  gigabyte-by row g i q inside below small table (Maps p a) is = grind (arith, common_steps, nat_tests, chunk-walk layout m row g i q inside small table, h.tidy, block-word layout p (m.words q i) a is)
  gigabyte-by row g i q inside below small table Bad is = absurd (second-known layout m h row g i q inside below small table is)

  -- a word of a table's kind is that of a table
  pub points-table : (row g i q : ℕ) → row < length layout.ids → g < 512 → i < 512 → table_at layout m.words (Gigabyte row g) ≡ Some q → m.words q i % 4 ≡ 3 → is_some (next_page (slot layout 2 (m.words q i))) ≡ true
  points-table row g i q inside below small table points = grind (arith, common_steps, nat_tests, h.clean (Gigabyte row g) q i (inside, below) table small, block-points layout, second-known layout m h row g i q inside below small table)

  -- ---- a level 3 table

  chunk-by : (row c i q : ℕ) → row < length layout.ids → c < 262144 → i < 512 → table_at layout m.words (Chunk row c) ≡ Some q → (s : Slot) → slot layout 3 (m.words q i) ≡ s
      → m.words q i ≡ leaf_for false (512 * c + i) (answer_of (at_3 s))
  chunk-by row c i q inside below small table Empty is = h.clean (Chunk row c) q i (inside, below) table small is
  chunk-by row c i q inside below small table (Maps p a) is = grind (arith, common_steps, nat_tests, page-walk layout m.words row c i q inside small table, h.tidy, page-word layout p (m.words q i) a is)
  chunk-by row c i q inside below small table (Next k) is = grind (arith, common_steps, nat_tests, page-walk layout m.words row c i q inside small table, h.tidy)
  chunk-by row c i q inside below small table Bad is = grind (arith, common_steps, nat_tests, page-walk layout m.words row c i q inside small table, h.tidy)

  -- ---- each table

  pub entries : (a : Place) (q i : ℕ) → IsPlace layout a → table_at layout m.words a ≡ Some q → i < 512 → m.words q i ≡ word_at layout m.words a i
  unfolding word_at
  entries (Root row) q i inside table small = grind (arith, common_steps, nat_tests, table_at-root layout m.words row, root-by row i inside small (slot layout 1 (m.words row i)) refl, gigabyte-now layout m.words row i)
  entries (Gigabyte row g) q i inside table small = grind (arith, common_steps, nat_tests, gigabyte-by row g i q inside.0 inside.1 small table (slot layout 2 (m.words q i)) refl, chunk-table layout m.words row g i q small table, chunk-walk layout m row g i q inside.0 small table)
  entries (Chunk row c) q i inside table small = grind (arith, common_steps, nat_tests, chunk-by row c i q inside.0 inside.1 small table (slot layout 3 (m.words q i)) refl, page-walk layout m.words row c i q inside.0 small table)
