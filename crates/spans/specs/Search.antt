-- What a search for a page finds.
use Rattle.std.specs.Prelude.{◌≡◌, ℕ, ◌^◌, ◌<◌, ◌≤◌, true, List, [], ◌∷◌, Option}
use Rattle.base.specs.declared.segment.Segment.{Segment}
use Rattle.spans.specs.Spans.{Span, value_at, is_border}

-- a page and those behind it up to a border have this number, or none
pub record IsSegment (ss : List Span) (page : ℕ) (segment : Segment (Option ℕ)) : Type 0 where
  pub behind : page < segment.end
  pub in_range : segment.end ≤ 2 ^ 27
  pub border : is_border ss segment.end ≡ true
  pub value : (n : ℕ) → page ≤ n → n < segment.end → value_at ss n ≡ segment.value

-- where the first of them begins; without one, the number of pages
abbrev pub begins_at : List Span → ℕ
begins_at [] = 2 ^ 27
begins_at (s ∷ ss) = s.run.first
