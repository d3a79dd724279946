-- Intervals without those of one number.
use Rattle.std.specs.Prelude.{◌≡◌, ℕ, ◌≤◌, ◌==◌, Bool, true, false, not, List, ◌++◌, filter}
use Rattle.std.specs.Option.{option_map_or}
use Rattle.spans.specs.Spans.{Span, value_at, ascend, end_from}

-- the page has the number
abbrev pub has_number : ℕ → List Span → ℕ → Bool
has_number value ss n = option_map_or (λ v. v == value) (value_at ss n) false

-- the intervals of other numbers
abbrev pub others : ℕ → List Span → List Span
others value ss = filter (λ s. not (s.value == value)) ss

-- those of a number went from between others, which end before the first page, or begin at the end or behind it
pub record IsTakenIn (first end value : ℕ) (old new : List Span) : Type 0 where
  pub before : List Span
  pub between : List Span
  pub behind : List Span
  pub was : old ≡ before ++ (between ++ behind)
  pub now : new ≡ before ++ (others value between ++ behind)
  pub below : end_from 0 before ≤ first
  pub above : ascend end behind ≡ true
