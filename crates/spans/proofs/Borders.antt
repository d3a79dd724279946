-- Where intervals begin and end.
use Rattle.std.proofs.Common.{◌≡◌, ℕ, zero, suc, ◌^◌, ◌<◌, Bool, true, false, ◌||◌, nat_eq, List, [], ◌∷◌, ◌++◌, length, get_or, drop, refl, arith}
use Rattle.std.proofs.lemmas.Bool.Decides.{nat_tests}
use Rattle.spans.specs.Spans.{Span, end_of, is_border}
use Rattle.spans.specs.Search.{begins_at}
use Rattle.spans.specs.Blocks.{all_spans}

same : (n : ℕ) → nat_eq n n ≡ true
same n = grind (arith, nat_tests)

in_left : (a b : Bool) → a ≡ true → (a || b) ≡ true
in_left a b h = rw h refl

in_right : (a b : Bool) → b ≡ true → (a || b) ≡ true
in_right true b h = refl
in_right false b h = h

-- the pages end there, whatever the intervals are
border_last : (ss : List Span) (page : ℕ) → nat_eq page (2 ^ 27) ≡ true → is_border ss page ≡ true
border_last [] page h = h
border_last (s ∷ ss) page h = in_right _ _ (border_last ss page h)

pub border-left : (xs ys : List Span) (page : ℕ) → is_border xs page ≡ true → is_border (xs ++ ys) page ≡ true
border-left [] ys page h = border_last ys page h
border-left (s ∷ xs) ys page h = elim (nat_eq page s.run.first || nat_eq page (end_of s.run)) as (λ b. (b || is_border xs page) ≡ true → (b || is_border (xs ++ ys) page) ≡ true) [
  | true ↦ λ k. refl
  | false ↦ λ k. border-left xs ys page k
] h

pub border-right : (xs ys : List Span) (page : ℕ) → is_border ys page ≡ true → is_border (xs ++ ys) page ≡ true
border-right [] ys page h = h
border-right (s ∷ xs) ys page h = in_right _ _ (border-right xs ys page h)

pub border-first : (s : Span) (ss : List Span) → is_border (s ∷ ss) s.run.first ≡ true
border-first s ss = in_left _ _ (in_left _ _ (same s.run.first))

-- where the intervals from a place on begin
pub border-begins : (i : ℕ) (ss : List Span) → is_border ss (begins_at (drop i ss)) ≡ true
border-begins zero [] = same (2 ^ 27)
border-begins zero (s ∷ ss) = border-first s ss
border-begins (suc i) [] = same (2 ^ 27)
border-begins (suc i) (s ∷ ss) = in_right _ _ (border-begins i ss)

-- what is a border of a block is one of all
pub border-block : (i : ℕ) (bs : List (List Span)) (d : List Span) (page : ℕ) → i < length bs → is_border (get_or bs i d) page ≡ true → is_border (all_spans bs) page ≡ true
border-block i [] d page lt h = absurd (omega arith)
border-block zero (b ∷ bs) d page lt h = border-left b (all_spans bs) page h
border-block (suc i) (b ∷ bs) d page lt h = border-right b (all_spans bs) page (border-block i bs d page (omega arith) h)

-- where a block begins
pub border-next : (i : ℕ) (bs : List (List Span)) (d : List Span) → i < length bs → is_border (all_spans bs) (begins_at (get_or bs i d)) ≡ true
border-next i bs d lt = border-block i bs d (begins_at (get_or bs i d)) lt (border-begins 0 (get_or bs i d))

-- where all pages end
pub border-pages : (ss : List Span) → is_border ss (2 ^ 27) ≡ true
border-pages ss = border_last ss (2 ^ 27) (same (2 ^ 27))
