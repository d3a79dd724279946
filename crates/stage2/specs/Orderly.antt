-- What holds of the tables: after each chunk, and between two edits.
use Rattle.std.specs.Prelude.{◌≡◌, ℕ, ◌+◌, ◌^◌, ◌≤◌, ◌<◌, true, is_some, Some, None, length}
use Rattle.base.specs.Access.{View}
use Rattle.base.specs.Manifest.{page_count}
use Rattle.pool.specs.Pool.{Words, Pages, InShare, used_by, with_put}
use Rattle.base.specs.Counts.{count_below}
use Rattle.words.specs.Words.{table_word_of}
use Rattle.stage2.specs.declared.walked.Walked.{Walked}
use Rattle.stage2.specs.declared.walked.Walked.TheVariants.{None as Unmapped, Leaf as Mapped, Wrong}
use Rattle.stage2.specs.Slot.{Layout, slot, Empty}
use Rattle.stage2.specs.Walk.{walk, Place, Root, Gigabyte, Chunk, table_at, IsPlace, IsForest}
use Rattle.stage2.specs.Sound.{IsTidy, Owns}
use Rattle.base.specs.Need.{is_mixed, is_reached}

-- what is reached by a walk
abbrev pub answer_of : Walked → View
answer_of Unmapped = None
answer_of (Mapped m a) = Some a
answer_of Wrong = None

-- the answers that the walks of a row give
abbrev pub answers : Layout → Words → ℕ → ℕ → View
answers layout words row n = answer_of (walk layout words row n)

-- how many tables hang in a row's tree, the root apart
abbrev pub hung : Layout → Words → ℕ → ℕ
hung layout words row =
    count_below (λ g. is_some (table_at layout words (Gigabyte row g))) 512
    + count_below (λ c. is_some (table_at layout words (Chunk row c))) 262144

abbrev pub level_at : Place → ℕ
level_at (Root row) = 1
level_at (Gigabyte row g) = 2
level_at (Chunk row c) = 3

-- the page hangs somewhere
abbrev pub Hangs : Layout → Words → ℕ → Type 0
Hangs layout words q = (a : Place) × IsPlace layout a × (table_at layout words a ≡ Some q)

-- The tables are trees of the pages taken, whose words are those of the answers, and a chunk has a level 3 table
-- exactly where its answers are not all equal.
pub record IsOrderly (layout : Layout) (m : Pages) : Type 0 where
  pub ids : layout.ids ≡ m.ids
  pub quotas : layout.quotas ≡ m.quotas
  pub pages : layout.pages ≡ page_count m.quotas
  pub rows : length layout.ids ≡ length m.quotas
  pub fits : layout.base + layout.pages ≤ 2 ^ 27
  pub forest : IsForest layout m.words
  pub taken : (a : Place) (q : ℕ) → IsPlace layout a → table_at layout m.words a ≡ Some q
      → m.taken q ≡ true
  pub owned : (a : Place) (q : ℕ) → IsPlace layout a → table_at layout m.words a ≡ Some q
      → Owns m.quotas a q
  -- a page that is taken hangs somewhere
  pub hangs : (row q : ℕ) → InShare m.quotas row q → m.taken q ≡ true → Hangs layout m.words q
  -- as many pages of a share are taken as tables hang
  pub used : (row : ℕ) → row < length layout.ids → used_by m row ≡ hung layout m.words row
  -- an invalid word is 0
  pub clean : (a : Place) (q i : ℕ) → IsPlace layout a → table_at layout m.words a ≡ Some q
      → i < 512 → slot layout (level_at a) (m.words q i) ≡ Empty → m.words q i ≡ 0
  pub tidy : (row n : ℕ) → row < length layout.ids → n < 2 ^ 27
      → IsTidy n (walk layout m.words row n)
  pub mixed : (row c : ℕ) → row < length layout.ids → c < 262144
      → is_some (table_at layout m.words (Chunk row c)) ≡ is_mixed (answers layout m.words row) c

-- Between two edits also a gigabyte has a level 2 table exactly where one of its pages is reached.
pub record IsCanonical (layout : Layout) (m : Pages) : Type 0 where
  pub orderly : IsOrderly layout m
  pub reached : (row g : ℕ) → row < length layout.ids → g < 512
      → is_some (table_at layout m.words (Gigabyte row g))
      ≡ is_reached (answers layout m.words row) g

-- the same with a level 2 table linked in a root: what the pages will be once that word is written
abbrev pub linked : Layout → ℕ → ℕ → ℕ → Pages → Pages
linked layout row g j m = with_put row g (table_word_of (layout.base + j)) m
