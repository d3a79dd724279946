-- Maps from pages to numbers as intervals.
use Rattle.std.specs.Prelude.{◌≡◌, ℕ, ◌+◌, ◌^◌, ◌==◌, Bool, true, not, ◌&&◌, ◌||◌, nat_le, nat_lt, List, [], ◌∷◌, Option, Some, None, if◌then◌else◌}
use Rattle.base.specs.Pages.{PageRun, in_run}

-- the pages of a run, and the number that each of them has
pub record Span : Type 0 where
  pub run : PageRun
  pub value : ℕ

-- the intervals of a map, and how many blocks it keeps without one
pub record PageMapView : Type 0 where
  pub spans : List Span
  pub spare : ℕ

-- the number of a page
abbrev pub value_at : List Span → ℕ → Option ℕ
value_at [] n = None
value_at (s ∷ ss) n = if in_run s.run n then Some s.value else value_at ss n

-- the pages that are hit have this number, or none, and the others keep theirs
abbrev pub IsSet : (ℕ → Bool) → Option ℕ → List Span → List Span → Type 0
IsSet hit value old new = (n : ℕ) → value_at new n ≡ (if hit n then value else value_at old n)

abbrev pub end_of : PageRun → ℕ
end_of run = run.first + run.count

-- each has a page and begins where the one before it ends, or later, and the first at this page or later
abbrev pub ascend : ℕ → List Span → Bool
ascend end [] = true
ascend end (s ∷ ss) = (nat_le end s.run.first && nat_lt 0 s.run.count) && ascend (end_of s.run) ss

-- it does not touch the first of these, or that has another number
abbrev pub is_apart : Span → List Span → Bool
is_apart s [] = true
is_apart s (t ∷ ss) = not (s.value == t.value && end_of s.run == t.run.first)

-- intervals that touch and have one number are one
abbrev pub are_joined : List Span → Bool
are_joined [] = true
are_joined (s ∷ ss) = is_apart s ss && are_joined ss

-- where the last of them ends; without one, this page
abbrev pub end_from : ℕ → List Span → ℕ
end_from end [] = end
end_from end (s ∷ ss) = end_from (end_of s.run) ss

-- an interval begins or ends at the page, or the pages end there
abbrev pub is_border : List Span → ℕ → Bool
is_border [] page = page == 2 ^ 27
is_border (s ∷ ss) page = (page == s.run.first || page == end_of s.run) || is_border ss page
