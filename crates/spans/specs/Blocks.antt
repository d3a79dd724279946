-- Intervals that stand in blocks. A map's view names `all_spans`; the other words stand in clauses inside the crate alone.
use Rattle.std.specs.Prelude.{◌≡◌, ℕ, ◌+◌, ◌*◌, ◌-◌, ◌/◌, ◌^◌, ◌<◌, ◌≤◌, true, nat_le, nat_lt, List, [], ◌∷◌, ◌++◌, Option, Some, length, filter, slice_index_or, take, drop}
use Rattle.std.specs.List.{AllByRecursion}
use Rattle.base.specs.Pages.{PageRun, covers, rise}
use Rattle.spans.specs.Spans.{Span, IsSet, ascend, are_joined}
use Rattle.spans.specs.Edits.{all_from, IsSame}
use Rattle.spans.specs.Search.{begins_at}
use Rattle.spans.specs.declared.place.Group.{Group}

-- a block knows where its first interval begins, and has places for 128
pub record IsBlock (begin : ℕ) (ss : List Span) (capacity : ℕ) : Type 0 where
  pub begins : begin ≡ begins_at ss
  pub in_range : begin ≤ 2 ^ 27
  pub ascending : ascend 0 ss ≡ true
  pub short : length ss ≤ 128
  pub places : 128 ≤ capacity

-- blocks upward, and how many are spare
pub record BlocksView : Type 0 where
  pub list : List (List Span)
  pub spare : ℕ

-- the intervals of all blocks, one after another
abbrev pub all_spans : List (List Span) → List Span
all_spans [] = []
all_spans (b ∷ bs) = b ++ all_spans bs

-- each of them has an interval, and no more than a block may have
abbrev pub AreFilled : List (List Span) → Type 0
AreFilled bs = AllByRecursion (λ b. (0 < length b) × (length b ≤ 128)) bs

-- it and the first of these have more than 112 intervals together
abbrev pub IsLongBeside : List Span → List (List Span) → Type 0
IsLongBeside b [] = Unit {0}
IsLongBeside b (c ∷ bs) = 112 < length b + length c

-- no two that stand side by side could be one
abbrev pub AreDense : List (List Span) → Type 0
AreDense [] = Unit {0}
AreDense (b ∷ bs) = IsLongBeside b bs × AreDense bs

-- the blocks stand upward, and each has an interval
pub record AreStacked (bs : List (List Span)) : Type 0 where
  pub ascending : ascend 0 (all_spans bs) ≡ true
  pub filled : AreFilled bs

-- they do so, and no two side by side could be one
pub record AreTidy (bs : List (List Span)) : Type 0 where
  pub stacked : AreStacked bs
  pub dense : AreDense bs

-- the blocks before a place begin before a page, and all intervals of the others behind them do not
pub record AreBefore (bs : List (List Span)) (page place : ℕ) : Type 0 where
  pub inside : place ≤ length bs
  pub before : (i : ℕ) (d : List Span) → i < place → begins_at (slice_index_or bs i d) < page
  pub behind : ascend page (all_spans (drop place bs)) ≡ true

-- how many blocks a block of so many intervals becomes at most, beside itself, where so many runs get a number
abbrev pub more_blocks : ℕ → ℕ → ℕ
more_blocks len runs = (len + 2 * runs - 1) / 128

-- the runs that belong to a block before these: those that do not begin behind the first of these
abbrev pub runs_before : List (List Span) → List PageRun → List PageRun
runs_before [] runs = runs
runs_before (b ∷ bs) runs = filter (λ run. nat_le run.first (begins_at b)) runs

-- the others
abbrev pub runs_after : List (List Span) → List PageRun → List PageRun
runs_after [] runs = []
runs_after (b ∷ bs) runs = filter (λ run. nat_lt (begins_at b) run.first) runs

-- how many more blocks there are at most where the runs get a number
abbrev pub needed : List (List Span) → List PageRun → ℕ
needed [] runs = 0
needed (b ∷ bs) runs =
    more_blocks (length b) (length (runs_before bs runs)) + needed bs (runs_after bs runs)

-- the same, also where there is no block yet
abbrev pub blocks_needed : List (List Span) → List PageRun → ℕ
blocks_needed [] [] = 0
blocks_needed [] (run ∷ runs) = 1 + more_blocks 0 (length (run ∷ runs))
blocks_needed (b ∷ bs) runs = needed (b ∷ bs) runs

-- there are places for so many blocks
pub record HavePlaces (all list spare : ℕ) : Type 0 where
  pub in_list : all ≤ list
  pub in_spare : all ≤ spare

-- the block of a group of runs: the runs of the group begin behind its begin, the others do not, and what is needed is
-- the sum of both
pub record IsGroup (bs : List (List Span)) (runs : List PageRun) (group : Group) : Type 0 where
  pub first : group.place ≡ 0 → group.from ≡ 0
  pub before : (i : ℕ) (d : PageRun) (b : List Span) → i < group.from → (slice_index_or runs i d).first ≤ begins_at (slice_index_or bs group.place b)
  pub behind : (i : ℕ) (d : PageRun) (b : List Span) → 0 < group.place → group.from ≤ i → i < length runs → begins_at (slice_index_or bs group.place b) < (slice_index_or runs i d).first
  pub next : (i : ℕ) (d : PageRun) → i < length runs → ascend (slice_index_or runs i d).first (all_spans (drop (group.place + 1) bs)) ≡ true

-- the blocks of a map stand upward, no two side by side could be one, and intervals that touch and have one number are one,
-- over the borders of blocks, too; one block is spare at most
pub record IsPageMap (blocks : BlocksView) : Type 0 where
  pub tidy : AreTidy blocks.list
  pub joined : are_joined (all_spans blocks.list) ≡ true
  pub spare : blocks.spare ≤ 1

-- blocks with these intervals stand before the one at a place, up to another place
pub record AreDealt (ss : List Span) (place at : ℕ) (old new : List (List Span)) : Type 0 where
  pub made : List (List Span)
  pub list : new ≡ take place old ++ (made ++ drop place old)
  pub count : at ≡ place + length made
  pub spans : all_spans made ≡ ss
  pub filled : AreFilled made
  pub dense : AreDense made

-- two blocks side by side became one before a place, or none did
pub record AreJoinedAt (at : ℕ) (old new : List (List Span)) : Type 0 where
  pub before : take (at - 1) new ≡ take (at - 1) old
  pub spans : (i : ℕ) → i < at → all_spans (drop i new) ≡ all_spans (drop i old)
  pub filled : (i : ℕ) → i < at → AreFilled (drop i old) → AreFilled (drop i new)
  pub dense : (i : ℕ) → i < at → AreDense (drop i (take at old)) → AreDense (drop at old) → AreDense (drop i new)

-- so many intervals stand in so many blocks, and not in fewer
pub record AreParts (len parts : ℕ) : Type 0 where
  pub some : 0 < parts
  pub fits : len ≤ parts * 128
  pub full : (parts - 1) * 128 < len

-- so many of them go into the first, and the others into the others
pub record IsPart (len parts part : ℕ) : Type 0 where
  pub some : 0 < part
  pub short : part ≤ 128
  pub inside : part ≤ len
  pub least : 1 < parts → 32 ≤ part
  pub many : 2 < parts → 81 ≤ part
  pub fits : len - part ≤ (parts - 1) * 128
  pub full : 1 < parts → (parts - 1 - 1) * 128 < len - part

-- all blocks but the one at a place are as a map's
pub record AreTidyBut (i : ℕ) (bs : List (List Span)) : Type 0 where
  pub inside : i < length bs
  pub short : length (slice_index_or bs i []) ≤ 128
  pub ascending : ascend 0 (all_spans bs) ≡ true
  pub before : AreFilled (take i bs)
  pub behind : AreFilled (drop (i + 1) bs)
  pub dense_before : AreDense (take i bs)
  pub dense_behind : AreDense (drop (i + 1) bs)

-- the runs belong to the block at a place of a map: where they get a number, none before it changes
pub record BelongTo (runs : List PageRun) (bs : List (List Span)) (i : ℕ) : Type 0 where
  pub inside : i < length bs
  pub tidy : AreTidy bs
  pub joined : are_joined (all_spans bs) ≡ true
  pub rises : rise 0 runs ≡ true
  pub some : 0 < length runs
  pub next : (d : PageRun) → ascend (slice_index_or runs (length runs - 1) d).first (all_spans (drop (i + 1) bs)) ≡ true

-- the pages of the runs have this number, or none, in the blocks from a place on
pub record IsSetFrom (runs : List PageRun) (value : Option ℕ) (old : List (List Span)) (i : ℕ) (new : List (List Span)) : Type 0 where
  pub before : take i new ≡ take i old
  pub ascending : ascend 0 (all_spans (drop i new)) ≡ true
  pub at : IsSet (covers runs) value (all_spans (drop i old)) (all_spans (drop i new))
  pub joined : are_joined (all_spans (drop i new)) ≡ true

-- they have this number, and those blocks are as a map's
pub record IsEdited (runs : List PageRun) (value : ℕ) (old : List (List Span)) (i : ℕ) (new : List (List Span)) : Type 0 where
  pub set : IsSetFrom runs (Some value) old i new
  pub filled : AreFilled (drop i new)
  pub dense : AreDense (drop i new)

-- what blocks have before a page is gone. Some of the others went behind the intervals of a list, and what is left begins
-- behind the page
pub record HasTakenIn (page : ℕ) (out : List Span) (old : List (List Span)) (out_new : List Span) (new : List (List Span)) : Type 0 where
  pub taken : List Span
  pub parted : all_from page (all_spans old) ≡ taken ++ all_spans new
  pub same : IsSame (out ++ taken) out_new
  pub above : ascend (page + 1) (all_spans new) ≡ true
  pub filled : AreFilled new
