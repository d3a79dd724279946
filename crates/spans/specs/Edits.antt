-- Intervals in which the pages of a run get another number, or none. These words stand in clauses inside the crate alone.
use Rattle.std.specs.Prelude.{◌≡◌, ℕ, ◌+◌, ◌*◌, ◌-◌, ◌<◌, ◌≤◌, ◌==◌, true, ◌&&◌, nat_le, List, [], ◌∷◌, ◌++◌, Option, Some, None, length, take, slice_index_or, min, max, if◌then◌else◌}
use Rattle.base.specs.Pages.{PageRun, covers}
use Rattle.spans.specs.Spans.{Span, value_at, end_of, ascend, end_from, are_joined}

-- the pages of an interval from one page up to another
abbrev pub part_of : ℕ → ℕ → Span → Span
part_of first end s =
    record { run = record { first = first; count = end - first }; value = s.value }

-- the pages of an interval before a page
abbrev pub left_of : ℕ → Span → Option Span
left_of page s =
    if nat_le page s.run.first then None
    else Some (part_of s.run.first (min (end_of s.run) page) s)

-- the pages of an interval from a page on
abbrev pub right_of : ℕ → Span → Option Span
right_of page s =
    if nat_le (end_of s.run) page then None
    else Some (part_of (max s.run.first page) (end_of s.run) s)

abbrev pub listed : Option Span → List Span
listed None = []
listed (Some s) = s ∷ []

-- what the intervals have before a page
unfoldable pub all_before : ℕ → List Span → List Span
all_before page [] = []
all_before page (s ∷ ss) = listed (left_of page s) ++ all_before page ss

-- what they have from a page on
unfoldable pub all_from : ℕ → List Span → List Span
all_from page [] = []
all_from page (s ∷ ss) = listed (right_of page s) ++ all_from page ss

-- the intervals before a place end at a page or before it, and the one there ends behind it
pub record IsPlaceOf (ss : List Span) (page i : ℕ) : Type 0 where
  pub inside : i ≤ length ss
  pub below : end_from 0 (take i ss) ≤ page
  pub above : (d : Span) → i < length ss → page < end_of (slice_index_or ss i d).run

-- an interval and the next as one, where they touch and have the same number
abbrev pub joined : Span → Span → Option Span
joined s t =
    if s.value == t.value && end_of s.run == t.run.first then
    Some (record { run = record { first = s.run.first; count = s.run.count + t.run.count }; value = s.value })
    else None

-- the second list says of each page what the first says, and is no longer
pub record IsSame (old new : List Span) : Type 0 where
  pub at : (n : ℕ) → value_at new n ≡ value_at old n
  pub ascends : (e : ℕ) → ascend e old ≡ true → ascend e new ≡ true
  pub ends : (e : ℕ) → end_from e new ≡ end_from e old
  pub fewer : length new ≤ length old

-- the intervals, but the pages of the runs have this number, or none
pub record IsMerged (runs : List PageRun) (value : Option ℕ) (old new : List Span) : Type 0 where
  pub ascending : ascend 0 new ≡ true
  pub at : (n : ℕ) → value_at new n ≡ (if covers runs n then value else value_at old n)
  pub joined : are_joined old ≡ true → are_joined new ≡ true
  pub fewer : length new ≤ length old + 2 * length runs
