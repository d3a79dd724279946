-- The word of a table, and walks that begin at a root.
use Rattle.stage2.proofs.Names.{nat_tests, table_word_of, Words, Layout, Next, slot, slot_from, index_1, at_1, walk, walk_across, ◌≡◌, ℕ, ◌+◌, ◌^◌, ◌≤◌, ◌<◌, length, arith, ap, ◌∙◌}
use Rattle.words.proofs.RoundTrip.{entry-table}

-- a word that points at a page of the pool
pub slot-table : (layout : Layout) (level k : ℕ) → level < 3 → k < layout.pages → layout.base + layout.pages ≤ 2 ^ 27 → slot layout level (table_word_of (layout.base + k)) ≡ Next k
unfolding slot
slot-table layout level k low inside fits = ap (slot_from layout) (entry-table level (layout.base + k) low (omega arith)) ∙ grind (arith, nat_tests)

-- ---- walks from a root

pub walk-inside : (layout : Layout) (words : Words) (row n : ℕ) → row < length layout.ids → walk layout words row n ≡ at_1 layout words words n (slot layout 1 (words row (index_1 n)))
unfolding walk_across
walk-inside layout words row n inside = grind (arith, nat_tests)
