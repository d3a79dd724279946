-- A page is looked for by halving.
use Rattle.std.proofs.Common.{◌≡◌, ℕ, suc, ◌+◌, ◌-◌, ◌*◌, ◌^◌, ◌<◌, ◌≤◌, true, false, cond, nat_eq, leb, ltb, List, [], ◌∷◌, ◌++◌, length, get_or, drop, min, Option, Some, None, refl, ap, ◌∙◌, mul-le-mul, arith}
use Rattle.std.proofs.Math.Nat.{mul-le-mul_left}
use Rattle.std.proofs.lemmas.List.{get_or_default, get_or_past}
use Rattle.std.proofs.lemmas.Nat.{pow-add, pow_below}
use Rattle.std.proofs.lemmas.Bool.{eqb-true, ltb-true, ltb-false}
use Rattle.std.proofs.lemmas.Bool.Decides.{nat_tests}
use Rattle.base.specs.Pages.{in_run}
use Rattle.base.specs.declared.segment.Segment.{Segment}
use Rattle.spans.specs.Spans.{Span, end_of, ascend, end_from, is_border}
use Rattle.spans.specs.Search.{IsSegment, begins_at}
use Rattle.spans.specs.Blocks.{all_spans, AreStacked}
use Rattle.spans.proofs.Ascending.{begins, ascend-left, value_at-append, value_at-behind, value_at-ahead}
use Rattle.spans.proofs.Stacked.{above_page, at_block, rest_behind}
use Rattle.spans.proofs.Borders.{border-left, border-right, border-block, border-next, border-pages}

-- ---- the count of looks

pow_more : (p i : ℕ) → i ≤ p → 2 ^ (p + 1 - i) ≡ 2 * 2 ^ (p - i)
pow_more p i le = let e : p + 1 - i ≡ suc (p - i) = omega arith in ap (λ (k : ℕ). 2 ^ k) e ∙ omega arith

pub halved : (p i size part len : ℕ) → i ≤ p → 2 * part ≤ size → 2 ^ (p - i) * size ≤ len → 2 ^ (p + 1 - i) * part ≤ len
halved p i size part len le small so_far =
    let more = pow_more p i le in
    let scaled = mul-le-mul_left (2 ^ (p - i)) small in
    rw more (omega (arith, scaled, so_far))

pub looked : (p i size len : ℕ) → i ≤ p → 1 ≤ size → 2 ^ (p - i) * size ≤ len → 2 ^ (p + 1 - i) ≤ 2 * len + 1
looked p i size len le some so_far =
    let more = pow_more p i le in
    let scaled = mul-le-mul_left (2 ^ (p - i)) some in
    rw more (omega (arith, scaled, so_far))

-- a power of two below the next
few : (b k most : ℕ) → 2 ^ b ≤ most → most < 2 ^ (k + 1) → 2 ^ b ≤ 2 ^ k
few b k most le less = elim (ltb b k) as (λ q. ltb b k ≡ q → 2 ^ b ≤ 2 ^ k) [
  | true ↦ λ t. let below = pow_below b k (ltb-true _ _ t) in omega (arith, below)
  | false ↦ λ t. elim (nat_eq b k) as (λ q. nat_eq b k ≡ q → 2 ^ b ≤ 2 ^ k) [
    | true ↦ λ u. let e : b ≡ k = eqb-true b k u in rw e (omega arith)
    | false ↦ λ u. elim (nat_eq b (k + 1)) as (λ q. nat_eq b (k + 1) ≡ q → 2 ^ b ≤ 2 ^ k) [
      | true ↦ λ v. let e : b ≡ k + 1 = eqb-true b (k + 1) v in let big : 2 ^ b ≡ 2 ^ (k + 1) = ap (λ (n : ℕ). 2 ^ n) e in absurd (omega (arith, big, le, less))
      | false ↦ λ v. let above : k + 1 < b = grind (arith, nat_tests) in let big = pow_below (k + 1) b above in absurd (omega (arith, big, le, less))
    ] refl
  ] refl
] refl

-- looks at blocks, and looks in one of them
pub both-looked : (q p i k blocks in_block most : ℕ) → i ≤ p → p ≤ q → 2 ^ (p - i) ≤ blocks → 2 ^ (q - p) ≤ in_block → in_block < 2 ^ (k + 1) → blocks ≤ most → 2 ^ (q - i) ≤ 2 ^ k * most
both-looked q p i k blocks in_block most le on first second short fewer =
    let e : q - i ≡ (q - p) + (p - i) = omega arith in
    let parts : 2 ^ (q - i) ≡ 2 ^ (q - p) * 2 ^ (p - i) = ap (λ (n : ℕ). 2 ^ n) e ∙ pow-add 2 (q - p) (p - i) in
    let a : 2 ^ (q - p) ≤ 2 ^ k = few (q - p) k in_block second short in
    let b : 2 ^ (p - i) ≤ most = omega (arith, first, fewer) in
    rw parts (mul-le-mul a b)

-- ---- what is said of a page

-- the interval that ends behind it, before others
pub segment-more : (e page : ℕ) (s : Span) (ss : List Span) (segment : Segment (Option ℕ)) → ascend e (s ∷ ss) ≡ true → IsSegment (s ∷ []) page segment → segment.end ≤ end_of s.run → IsSegment (s ∷ ss) page segment
segment-more e page s ss segment h is inside = record {
  behind = is.behind;
  in_range = is.in_range;
  border = border-left (s ∷ []) ss segment.end is.border;
  value = λ n from to.
      let x = begins e s ss h in
      let none = value_at-ahead (end_of s.run) ss n x.rest (omega (arith, to, inside)) in
      ap (λ (o : Option ℕ). cond (in_run s.run n) (Some s.value) o) none ∙ is.value n from to;
}

-- behind others that end at the page or before it
pub segment-behind : (page : ℕ) (xs ys : List Span) (segment : Segment (Option ℕ)) → ascend 0 (xs ++ ys) ≡ true → end_from 0 xs ≤ page → IsSegment ys page segment → IsSegment (xs ++ ys) page segment
segment-behind page xs ys segment h below is = record {
  behind = is.behind;
  in_range = is.in_range;
  border = border-right xs ys segment.end is.border;
  value = λ n from to. value_at-append xs ys n ∙ rw (value_at-behind 0 xs n (ascend-left 0 xs ys h) (omega (arith, below, from))) (is.value n from to);
}

-- where none is before it
pub segment-none : (page next : ℕ) (ss : List Span) → ascend next ss ≡ true → page < next → next ≤ 2 ^ 27 → is_border ss next ≡ true → IsSegment ss page (record { value = None; end = next })
segment-none page next ss above lt in_range border = record { behind = lt; in_range = in_range; border = border; value = λ n from to. value_at-ahead next ss n above to }

-- ---- among blocks

-- where those from a place on begin
module _ (bs : List (List Span)) (i next : ℕ) (stacked : AreStacked bs) (is : next ≡ begins_at (get_or bs i [])) where
  pub next-ascends : ascend next (all_spans (drop i bs)) ≡ true
  next-ascends = above_page 0 next i bs stacked.filled stacked.ascending (λ d lt. let same = ap begins_at (get_or_default bs i [] d lt) in omega (arith, is, same))

  pub next-border : is_border (all_spans bs) next ≡ true
  next-border = elim (ltb i (length bs)) as (λ q. ltb i (length bs) ≡ q → is_border (all_spans bs) next ≡ true) [
    | true ↦ λ t. ap (is_border (all_spans bs)) is ∙ border-next i bs [] (ltb-true _ _ t)
    | false ↦ λ t. ap (is_border (all_spans bs)) (is ∙ ap begins_at (get_or_past bs i [] (ltb-false _ _ t))) ∙ border-pages (all_spans bs)
  ] refl

  pub next-behind : (e : ℕ) → ascend e (all_spans (drop i bs)) ≡ true → e ≤ 2 ^ 27 → e ≤ next
  next-behind e h most = rest_behind bs i e next stacked.filled h (λ lt d. is ∙ ap begins_at (get_or_default bs i [] d lt)) (λ end. let same = ap begins_at (get_or_past bs i [] end) in omega (arith, is, same, most))

border_of_two : (a b : ℕ) (ss : List Span) → is_border ss a ≡ true → is_border ss b ≡ true → is_border ss (min a b) ≡ true
border_of_two a b ss h k = elim (leb a b) as (λ q. leb a b ≡ q → is_border ss (min a b) ≡ true) [
  | true ↦ λ t. let e : min a b ≡ a = grind (arith, nat_tests) in rw e h
  | false ↦ λ t. let e : min a b ≡ b = grind (arith, nat_tests) in rw e k
] refl

-- the block of a page
pub segment-block : (bs : List (List Span)) (i page next : ℕ) (d : List Span) (segment : Segment (Option ℕ)) → AreStacked bs → i < length bs → begins_at (get_or bs i d) ≤ page → next ≡ begins_at (get_or bs (i + 1) []) → page < next → IsSegment (get_or bs i d) page segment
    → IsSegment (all_spans bs) page (record { value = segment.value; end = min segment.end next })
segment-block bs i page next d segment stacked lt from is before here = record {
  behind = omega (arith, before, here.behind);
  in_range = omega (arith, here.in_range);
  border = border_of_two segment.end next (all_spans bs) (border-block i bs d segment.end lt here.border) (next-border bs (i + 1) next stacked is);
  value = λ n least most. at_block bs i n d stacked lt (omega (arith, from, least)) (value_at-ahead next (all_spans (drop (i + 1) bs)) n (next-ascends bs (i + 1) next stacked is) (omega (arith, most))) ∙ here.value n least (omega (arith, most));
}
