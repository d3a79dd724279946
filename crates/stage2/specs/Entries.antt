-- The word of each entry of the tables (Arm ARM, VMSAv8-64 stage 2 descriptors).
use Rattle.std.specs.Prelude.{ℕ, ◌+◌, ◌*◌, Bool, true, false, Option, Some, None}
use Rattle.base.specs.Access.{View}
use Rattle.words.specs.Words.{leaf_word_of, table_word_of}
use Rattle.pool.specs.Pool.{Words}
use Rattle.stage2.specs.Slot.{Layout}
use Rattle.stage2.specs.Walk.{Place, Root, Gigabyte, Chunk, table_at}
use Rattle.stage2.specs.Orderly.{answers}

-- the descriptor of a block or a page that is reached so, and 0 where it is not reached
abbrev pub leaf_for : Bool → ℕ → View → ℕ
leaf_for block page None = 0
leaf_for block page (Some access) = leaf_word_of block page access

-- the descriptor of the table that hangs there, or else of the leaf
abbrev pub entry_for_table : Layout → Option ℕ → ℕ → ℕ
entry_for_table layout None leaf = leaf
entry_for_table layout (Some k) leaf = table_word_of (layout.base + k)

-- the word at an index of the table at a place: a root has table descriptors alone, the chunks of a gigabyte without a table are blocks
unfoldable pub word_at : Layout → Words → Place → ℕ → ℕ
word_at layout words (Root row) i =
    entry_for_table layout (table_at layout words (Gigabyte row i)) 0
word_at layout words (Gigabyte row g) i =
    entry_for_table layout (table_at layout words (Chunk row (512 * g + i)))
    (leaf_for true (512 * (512 * g + i)) (answers layout words row (512 * (512 * g + i))))
word_at layout words (Chunk row c) i =
    leaf_for false (512 * c + i) (answers layout words row (512 * c + i))
