-- What walks see that are under way while operations are made (Arm ARM: a walk reads one descriptor after another, and a descriptor is
-- broken, and invalidated, before it is made).
use Rattle.std.specs.Prelude.{◌≡◌, ◌≢◌, ℕ, ◌+◌, ◌/◌, ◌%◌, ◌^◌, ◌<◌, Bool, true, false, ◌&&◌, ◌||◌, not, ◌==◌, List, [], ◌∷◌, ◌⊎◌, Some, None, if◌then◌else◌, length}
use Rattle.base.specs.Pages.{PageRun, in_run}
use Rattle.base.specs.Access.{View}
use Rattle.base.specs.Manifest.{row_of}
use Rattle.pool.specs.Pool.{Pool, Words, words_of, put, all_lie_in}
use Rattle.pool.specs.declared.operation.Op.{Op}
use Rattle.pool.specs.declared.operation.Op.TheVariants.{Set, Invalidate, Clear}
use Rattle.stage2.specs.declared.walked.Walked.{Walked}
use Rattle.stage2.specs.declared.walked.Walked.TheVariants.{None as Unmapped, Leaf as Mapped, Wrong}
use Rattle.stage2.specs.Slot.{Layout, Slot, Empty, Next, Maps, Bad, slot}
use Rattle.stage2.specs.Walk.{index_1, index_2, index_3, at_3, walk, walked, Place, Root, Gigabyte, Chunk, table_at, IsPlace}

-- ---- operations, of which the latest stands first

-- the words after these operations, over the words that were there before them
abbrev pub words_after : List Op → Words → Words
words_after [] entry = entry
words_after (Set page index word ∷ past) entry = put page index word (words_after past entry)
words_after (Invalidate who run ∷ past) entry = words_after past entry
words_after (Clear run ∷ past) entry = words_after past entry

-- the runs that these operations clear, of which the latest stands first
abbrev pub cleared_by : List Op → List PageRun
cleared_by [] = []
cleared_by (Set page index word ∷ past) = cleared_by past
cleared_by (Invalidate who run ∷ past) = cleared_by past
cleared_by (Clear run ∷ past) = run ∷ cleared_by past

-- the operation invalidates page n of a row
abbrev pub invalidates : Layout → Op → ℕ → ℕ → Bool
invalidates layout (Set page index word) row n = false
invalidates layout (Invalidate who run) row n = (row_of layout.ids who == row) && in_run run n
invalidates layout (Clear run) row n = false

-- it holds after each of the operations, and before them
abbrev pub AtEachMoment : (List Op → Type 0) → List Op → Type 0
AtEachMoment P [] = P []
AtEachMoment P (op ∷ past) = P (op ∷ past) × AtEachMoment P past

-- an earlier moment, since which page n of the row was not invalidated
pub data Since (layout : Layout) (row n : ℕ) : List Op → List Op → Type 0 where
  now : (past : List Op) → Since layout row n past past
  earlier : (moment past : List Op) (op : Op) → invalidates layout op row n ≡ false
      → Since layout row n moment past → Since layout row n moment (op ∷ past)

-- ---- walks under way

-- a walk begins, is to read a level 2 or a level 3 table, or has its answer, which may be cached
pub data Walker : Type 0 where
  Begins : Walker
  Second : ℕ → Walker
  Third : ℕ → Walker
  Ends : Walked → Walker

abbrev pub from_1 : Slot → Walker
from_1 Empty = Ends Unmapped
from_1 (Next j) = Second j
from_1 (Maps m a) = Ends Wrong
from_1 Bad = Ends Wrong

abbrev pub from_2 : ℕ → Slot → Walker
from_2 n Empty = Ends Unmapped
from_2 n (Next k) = Third k
from_2 n (Maps m a) = Ends (Mapped (m + index_3 n) a)
from_2 n Bad = Ends Wrong

-- it reads its next word
abbrev pub goes_on : Layout → Words → ℕ → ℕ → Walker → Walker
goes_on layout words row n Begins = from_1 (slot layout 1 (words row (index_1 n)))
goes_on layout words row n (Second j) = from_2 n (slot layout 2 (words j (index_2 n)))
goes_on layout words row n (Third k) = Ends (at_3 (slot layout 3 (words k (index_3 n))))
goes_on layout words row n (Ends a) = Ends a

-- A walk of page n of a row may be here after these operations: it begins at any moment, reads a word at any moment, and outlasts
-- each operation but an invalidation of its page, which waits for the walks under way and drops what is cached.
pub data UnderWay (layout : Layout) (entry : Words) (row n : ℕ) : List Op → Walker → Type 0 where
  begins : (past : List Op) → UnderWay layout entry row n past Begins
  reads : (past : List Op) (w : Walker) → UnderWay layout entry row n past w
      → UnderWay layout entry row n past (goes_on layout (words_after past entry) row n w)
  outlasts : (past : List Op) (op : Op) (w : Walker) → invalidates layout op row n ≡ false
      → UnderWay layout entry row n past w → UnderWay layout entry row n (op ∷ past) w

-- ---- break before make

-- a word is valid where its bit 0 is 1
abbrev pub IsInvalid : ℕ → Type 0
IsInvalid word = word % 2 ≡ 0

abbrev pub IsValid : ℕ → Type 0
IsValid word = word % 2 ≢ 0

-- the pages that a word of the table at a place stands for
abbrev pub StandsFor : Place → ℕ → ℕ → ℕ → Type 0
StandsFor (Root r) index row n = (r ≡ row) × (index ≡ index_1 n)
StandsFor (Gigabyte r g) index row n = (r ≡ row) × (g ≡ index_1 n) × (index ≡ index_2 n)
StandsFor (Chunk r c) index row n = (r ≡ row) × (c ≡ n / 512) × (index ≡ index_3 n)

-- At an earlier moment a word of this page stood for page n of a row, which was not invalidated since: the page hung at a place, where its word at the
-- index stands for page n.
pub record StoodFor (layout : Layout) (entry : Words) (past : List Op) (page index row n : ℕ) (moment : List Op) : Type 0 where
  pub place : Place
  pub inside : IsPlace layout place
  pub hung : table_at layout (words_after moment entry) place ≡ Some page
  pub small : n < 2 ^ 27
  pub stands : StandsFor place index row n
  pub since : Since layout row n moment past

-- a write into a page
pub record BreaksFirst (layout : Layout) (entry : Words) (past : List Op) (page index word : ℕ) : Type 0 where
  -- a valid word becomes 0 first
  pub breaks : IsValid (words_after past entry page index) → word ≡ 0
  -- and a valid word is written where the word was invalid at each moment since when a page that it stood for may still be known by it
  pub makes : IsValid word → (row n : ℕ) (moment : List Op)
      → StoodFor layout entry past page index row n moment
      → IsInvalid (words_after moment entry page index)

-- each write into a table that hangs
abbrev pub AllBreakFirst : Layout → Words → List Op → Type 0
AllBreakFirst layout entry [] = Unit {0}
AllBreakFirst layout entry (Set page index word ∷ past) =
    ((a : Place) → IsPlace layout a → table_at layout (words_after past entry) a ≡ Some page → BreaksFirst layout entry past page index word)
    × AllBreakFirst layout entry past
AllBreakFirst layout entry (Invalidate who run ∷ past) = AllBreakFirst layout entry past
AllBreakFirst layout entry (Clear run ∷ past) = AllBreakFirst layout entry past

-- ---- clears

-- no walk reaches a page of the run, and nothing is cached for one
abbrev pub AreUnreached : Layout → Words → List Op → PageRun → Type 0
AreUnreached layout entry past run =
    (row n : ℕ) (a : Walked) → row < length layout.ids → n < 2 ^ 27 → in_run run n ≡ true
    → UnderWay layout entry row n past (Ends a) → a ≡ Unmapped

-- pages are cleared while no partition reaches them
abbrev pub AllClearUnreached : Layout → Words → List Op → Type 0
AllClearUnreached layout entry [] = Unit {0}
AllClearUnreached layout entry (Set page index word ∷ past) = AllClearUnreached layout entry past
AllClearUnreached layout entry (Invalidate who run ∷ past) = AllClearUnreached layout entry past
AllClearUnreached layout entry (Clear run ∷ past) =
    AreUnreached layout entry past run × AllClearUnreached layout entry past

-- ---- a call

-- The words at its entry, how many operations were made before it, the pages of one row that it may disturb, with what their walks
-- give in the end, and the runs that are cleared so far, of which the latest stands first.
pub record OpenCall : Type 0 where
  pub layout : Layout
  pub entry : Words
  pub made : ℕ
  pub row : ℕ
  pub which : ℕ → Bool
  pub answer : ℕ → Walked
  pub cleared : List PageRun

-- one run more is cleared
abbrev pub with_clear : PageRun → OpenCall → OpenCall
with_clear run e = record e { cleared = run ∷ e.cleared }

-- the edit may disturb page n of the row
abbrev pub is_disturbed : OpenCall → ℕ → ℕ → Bool
is_disturbed e q n = (q == e.row) && e.which n

-- a walk may give what it gave at the entry, and for a page that is disturbed also nothing, or what it gives in the end
abbrev pub MayGive : OpenCall → ℕ → ℕ → Walked → Type 0
MayGive e q n a =
    (a ≡ walk e.layout e.entry q n)
    ⊎ ((is_disturbed e q n ≡ true) × ((a ≡ Unmapped) ⊎ (a ≡ e.answer n)))

-- at a moment each walk that ends gives what it may
abbrev pub GivesOnly : OpenCall → List Op → Type 0
GivesOnly e past =
    (q n : ℕ) → q < length e.layout.ids → n < 2 ^ 27 → (a : Walked)
    → UnderWay e.layout e.entry q n past (Ends a) → MayGive e q n a

-- the table that a walk is to read hangs at its place
abbrev pub IsLinked : Layout → Words → ℕ → ℕ → Walker → Type 0
IsLinked layout words q n Begins = Unit {0}
IsLinked layout words q n (Second j) = table_at layout words (Gigabyte q (index_1 n)) ≡ Some j
IsLinked layout words q n (Third k) = table_at layout words (Chunk q (n / 512)) ≡ Some k
IsLinked layout words q n (Ends a) = Unit {0}

-- what a walk has read stands there still: the tables on its way, and, unless an invalidation is due, its answer or nothing
abbrev pub Stands : Layout → Words → Bool → ℕ → ℕ → Walker → Type 0
Stands layout words due q n Begins = Unit {0}
Stands layout words due q n (Second j) = table_at layout words (Gigabyte q (index_1 n)) ≡ Some j
Stands layout words due q n (Third k) = table_at layout words (Chunk q (n / 512)) ≡ Some k
Stands layout words due q n (Ends a) = due ≡ false → (a ≡ Unmapped) ⊎ (a ≡ walk layout words q n)

-- an edit under way: these words and operations so far, and the pages of its row whose invalidation is due
pub record IsInStep (e : OpenCall) (due : ℕ → Bool) (words : Words) (past : List Op) : Type 0 where
  pub exact : words ≡ words_after past e.entry
  pub gives : AtEachMoment (GivesOnly e) past
  pub breaks : AllBreakFirst e.layout e.entry past
  pub clears : AllClearUnreached e.layout e.entry past
  pub cleared : cleared_by past ≡ e.cleared
  pub stands : (q n : ℕ) → q < length e.layout.ids → n < 2 ^ 27 → (w : Walker)
      → UnderWay e.layout e.entry q n past w → Stands e.layout words ((q == e.row) && due n) q n w

-- one operation more
pub record IsLogged (op : Op) (old new : Pool) : Type 0 where
  pub operations : new.operations ≡ op ∷ old.operations
  pub made : new.made ≡ (old.made + 1) % 2 ^ 64

-- the same of a pool, whose list of operations has all that were made
pub record IsInStepIn (e : OpenCall) (due : ℕ → Bool) (pool : Pool) : Type 0 where
  pub orderly : IsInStep e due (words_of pool.memory.words) pool.operations
  pub counted : pool.made % 2 ^ 64 ≡ (e.made + length pool.operations) % 2 ^ 64

-- nothing is due
abbrev pub nothing : ℕ → Bool
nothing n = false

-- an edit of these tables that may give nothing, and these answers, at these pages of the row
pub record Allows (e : OpenCall) (layout : Layout) (row : ℕ) (which : ℕ → Bool) (answer : ℕ → Walked) : Type 0 where
  pub same_layout : e.layout ≡ layout
  pub same_row : e.row ≡ row
  pub may : (n : ℕ) → n < 2 ^ 27 → which n ≡ true
      → MayGive e e.row n Unmapped × MayGive e e.row n (answer n)

-- an edit that is orderly so far stays so, with invalidations of these pages due
abbrev pub LeavesDue : Layout → ℕ → (ℕ → Bool) → Pool → Pool → Type 0
LeavesDue layout row which old new =
    (e : OpenCall) (due : ℕ → Bool) → Allows e layout row which (λ n. Unmapped) → IsInStepIn e due old
    → IsInStepIn e (λ n. due n || which n) new

-- it stays so, and no invalidations of these pages are due any more
abbrev pub Settles : ℕ → (ℕ → Bool) → Pool → Pool → Type 0
Settles who which old new =
    (e : OpenCall) (due : ℕ → Bool) → row_of e.layout.ids who ≡ e.row → IsInStepIn e due old
    → IsInStepIn e (λ n. due n && not (which n)) new

-- it stays so, where nothing is due before and after, and where it may give these answers
abbrev pub StaysInStep : Layout → ℕ → (ℕ → Bool) → (ℕ → Walked) → Pool → Pool → Type 0
StaysInStep layout row which answer old new =
    (e : OpenCall) → Allows e layout row which answer → IsInStepIn e nothing old
    → IsInStepIn e nothing new

-- ---- what walkers see of a whole call

-- after these operations a walk of a page may give a partition this
abbrev pub MayAnswer : Layout → Words → List Op → ℕ → ℕ → Walked → Type 0
MayAnswer layout entry past p n a =
    (row_of layout.ids p < length layout.ids) × (n < 2 ^ 27)
    × UnderWay layout entry (row_of layout.ids p) n past (Ends a)

-- each walk gives nothing, or agrees with the answer before or the answer after
abbrev pub GivesOldOrNew : Layout → Words → (ℕ → ℕ → View) → (ℕ → ℕ → View) → List Op → Type 0
GivesOldOrNew layout entry before after past =
    (p n : ℕ) (a : Walked) → MayAnswer layout entry past p n a
    → (a ≡ Unmapped) ⊎ (a ≡ walked n (before p n)) ⊎ (a ≡ walked n (after p n))

-- the answers of a chunk are not all equal, so it holds a table
abbrev pub AreMixed : (ℕ → ℕ → View) → ℕ → ℕ → Type 0
AreMixed view p c = (x y : ℕ) × (x / 512 ≡ c) × (y / 512 ≡ c) × (view p x ≢ view p y)

-- a page that keeps its answer, in a chunk all of whose pages keep theirs, or which holds a table before and after
pub record IsSteady (before after : ℕ → ℕ → View) (p n : ℕ) : Type 0 where
  pub kept : before p n ≡ after p n
  pub chunk : ((x : ℕ) → x / 512 ≡ n / 512 → before p x ≡ after p x)
      ⊎ (AreMixed before p (n / 512) × AreMixed after p (n / 512))

-- each walk of a steady page agrees with its answer
abbrev pub KeepsAnswers : Layout → Words → (ℕ → ℕ → View) → (ℕ → ℕ → View) → List Op → Type 0
KeepsAnswers layout entry before after past =
    (p n : ℕ) (a : Walked) → IsSteady before after p n → MayAnswer layout entry past p n a
    → a ≡ walked n (before p n)

-- The operations of a pool's list lead from one pool to this one, while what partitions reach changes from `before` to `after`.
pub record Moments (layout : Layout) (old new : Pool) (before after : ℕ → ℕ → View) : Type 0 where
  -- they are all that was done
  pub exact : words_of new.memory.words ≡ words_after new.operations (words_of old.memory.words)
  pub counted : new.made % 2 ^ 64 ≡ (old.made + length new.operations) % 2 ^ 64
  pub gives : AtEachMoment (GivesOldOrNew layout (words_of old.memory.words) before after)
      new.operations
  pub keeps : AtEachMoment (KeepsAnswers layout (words_of old.memory.words) before after)
      new.operations
  pub breaks : AllBreakFirst layout (words_of old.memory.words) new.operations
  -- pages are cleared while no partition reaches them
  pub clears : AllClearUnreached layout (words_of old.memory.words) new.operations
  -- each writes a word of a page of the pool, invalidates pages of a partition with a row, or clears pages, all below 2^27
  pub within : all_lie_in new ≡ true
  -- in the end what is cached is new, and the tables that walks under way are to read hang still
  pub fresh : (p n : ℕ) (a : Walked)
      → MayAnswer layout (words_of old.memory.words) new.operations p n a
      → (a ≡ Unmapped) ⊎ (a ≡ walked n (after p n))
  pub linked : (row n : ℕ) → row < length layout.ids → n < 2 ^ 27 → (w : Walker)
      → UnderWay layout (words_of old.memory.words) row n new.operations w
      → IsLinked layout (words_of new.memory.words) row n w

-- what partitions reach without these pages of one of them
abbrev pub without : ℕ → (ℕ → Bool) → (ℕ → ℕ → View) → ℕ → ℕ → View
without p which before q n = if (q == p) && which n then None else before q n
