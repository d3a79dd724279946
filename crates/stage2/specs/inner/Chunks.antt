-- What the edit of a chunk asks, and what it makes of the tables.
use Rattle.std.specs.Prelude.{◌≡◌, ◌≢◌, ℕ, ◌+◌, ◌*◌, ◌/◌, ◌^◌, ◌<◌, Bool, nat_le, true, false, ◌&&◌, ◌==◌, if◌then◌else◌, nat_lt, Option, Some, None, is_none, length, List}
use Rattle.std.specs.List.{list_any}
use Rattle.words.specs.Words.{entry_of}
use Rattle.stage2.specs.inner.Change.{entry_for}
use Rattle.base.specs.Pages.{PageRun, covers}
use Rattle.base.specs.Access.{View}
use Rattle.pool.specs.Pool.{Words, Pages}
use Rattle.stage2.specs.Slot.{Layout, Slot, Empty, Next, Maps, Bad, slot}
use Rattle.stage2.specs.Walk.{at_2, walk, walked, Place, Gigabyte, Chunk, table_at, IsPlace}
use Rattle.base.specs.Need.{is_mixed}
use Rattle.stage2.specs.Orderly.{IsOrderly, answer_of, answers, linked}

-- the pages of a chunk of the row give these answers; all else is as it was
pub record Redoes (layout : Layout) (row c : ℕ) (answer : ℕ → View) (old new : Pages) : Type 0 where
  pub orderly : IsOrderly layout new
  pub ids : new.ids ≡ old.ids
  pub quotas : new.quotas ≡ old.quotas
  pub walks : (q n : ℕ) → n < 2 ^ 27 → walk layout new.words q n
      ≡ (if (q == row) && (n / 512 == c) then walked n (answer n) else walk layout old.words q n)
  pub tables : (b : Place) → IsPlace layout b → b ≢ Chunk row c
      → table_at layout new.words b ≡ table_at layout old.words b

-- ---- the words of one level 3 table

-- a level 3 word for page n with this answer; the invalid one is 0
pub record IsWordFor (n : ℕ) (answer : View) (word : ℕ) : Type 0 where
  pub entry : entry_of 3 word ≡ entry_for n answer
  pub zero : answer ≡ None → word ≡ 0

-- the pages of the runs get one answer, and the others another one, or stay
abbrev pub planned : List PageRun → View → Option View → ℕ → Option View
planned runs access others n = if covers runs n then Some access else others

-- what is planned for the pages below m
abbrev pub below : ℕ → (ℕ → Option View) → ℕ → Option View
below m plan n = if nat_lt n m then plan n else None

-- the words of table k, for the pages of chunk c, are those that are planned; where nothing is planned, and in all other tables, they stay
pub record Writes (k c : ℕ) (plan : ℕ → Option View) (old new : Pages) : Type 0 where
  pub ids : new.ids ≡ old.ids
  pub quotas : new.quotas ≡ old.quotas
  pub taken : new.taken ≡ old.taken
  pub others : (q i : ℕ) → q ≢ k → new.words q i ≡ old.words q i
  pub here : (i : ℕ) (answer : View) → i < 512 → plan (512 * c + i) ≡ Some answer
      → IsWordFor (512 * c + i) answer (new.words k i)
  pub stays : (i : ℕ) → i < 512 → plan (512 * c + i) ≡ None → new.words k i ≡ old.words k i

-- ---- the answers of one chunk, from its level 2 word on

-- what the pages of a chunk answer whose level 2 word is this slot
abbrev pub answers_at : Layout → Words → Slot → ℕ → View
answers_at layout words entry n = answer_of (at_2 layout words n entry)

-- the one answer of a chunk's pages, or none where they are not all equal
pub record IsOutcome (c : ℕ) (answer : ℕ → View) (outcome : Option View) : Type 0 where
  pub same : (one : View) → outcome ≡ Some one → (n : ℕ) → n / 512 ≡ c → answer n ≡ one
  pub mixed : is_none outcome ≡ is_mixed answer c

-- one of the runs has all pages of the chunk
abbrev pub covers_chunk : ℕ → List PageRun → Bool
covers_chunk c runs =
    list_any (λ run. nat_le run.first (512 * c) && nat_le (512 * c + 512) (run.first + run.count))
    runs

-- a level 2 word for a chunk whose pages all have this answer: a block, or 0
pub record IsEntryFor (c : ℕ) (answer : View) (word : ℕ) : Type 0 where
  pub entry : entry_of 2 word ≡ entry_for (512 * c) answer
  pub zero : answer ≡ None → word ≡ 0

-- a chunk whose gigabyte has the level 2 table j, if only once its root's word is written
pub record IsSite (layout : Layout) (row c j : ℕ) (m : Pages) : Type 0 where
  pub orderly : IsOrderly layout (linked layout row (c / 512) j m)
  pub partition : row < length layout.ids
  pub chunk : c < 262144
  pub second : table_at layout (linked layout row (c / 512) j m).words (Gigabyte row (c / 512))
      ≡ Some j

-- the answers of a row, seen so
abbrev pub answers_in : Layout → ℕ → ℕ → ℕ → Pages → ℕ → View
answers_in layout row c j m = answers layout (linked layout row (c / 512) j m).words row

-- the edit of a chunk, seen so; the root's own words stay
pub record Redoes_in (layout : Layout) (row c j : ℕ) (answer : ℕ → View) (old new : Pages) : Type 0 where
  pub redoes : Redoes layout row c answer (linked layout row (c / 512) j old)
      (linked layout row (c / 512) j new)
  pub root : (i : ℕ) → new.words row i ≡ old.words row i

-- the chunk needs a table in the new view, and has none in the old
pub record IsGrowing (old new : ℕ → View) (c : ℕ) : Type 0 where
  pub now : is_mixed new c ≡ true
  pub was : is_mixed old c ≡ false

-- what the pages of a chunk answer whose word is no table
abbrev pub block_answer : Slot → View
block_answer Empty = None
block_answer (Maps m a) = Some a
block_answer (Next k) = None
block_answer Bad = None

-- a chunk's level 2 word, in the table of its gigabyte, if that has one
abbrev pub entry_in : Layout → Words → Option ℕ → ℕ → Slot
entry_in layout words None i = Empty
entry_in layout words (Some j) i = slot layout 2 (words j i)

-- ---- the tables of a partition that may have no root

-- what the pages of a row answer; nothing where there is no row
abbrev pub answers_of : Layout → Words → Option ℕ → ℕ → View
answers_of layout words None n = None
answers_of layout words (Some row) n = answers layout words row n

-- the level 2 table of a gigabyte of the row, if there are both
abbrev pub second_of : Layout → Words → Option ℕ → ℕ → Option ℕ
second_of layout words None g = None
second_of layout words (Some row) g = table_at layout words (Gigabyte row g)
