-- A run between intervals: what they have before it, the run, and what they have behind it.
use Rattle.std.proofs.Common.{◌≡◌, ℕ, suc, ◌+◌, ◌<◌, ◌≤◌, true, false, cond, leb, List, [], ◌∷◌, ◌++◌, length, get_or, take, drop, min, max, Option, Some, None, length-append, refl, sym, ap, subst, ◌∙◌, append_assoc, arith}
use Rattle.std.proofs.lemmas.Bool.{leb-true}
use Rattle.std.proofs.lemmas.Bool.Decides.{nat_tests}
use Rattle.base.specs.Pages.{PageRun, in_run}
use Rattle.spans.specs.Spans.{Span, value_at, end_of, ascend, end_from}
use Rattle.spans.specs.Edits.{part_of, left_of, right_of, listed, all_before, all_from, IsSame}
use Rattle.spans.proofs.Ascending.{begins, far, ascend-left, ascend-right, end_from-append}
use Rattle.spans.proofs.Parting.{span_of, replaced, all_before-append, all_before-above, all_before-below, all_from-append, all_from-above, all_from-below, ascend-all_from, from_here, end_from-all_before, value_at-replaced, ascend-replaced}
use Rattle.spans.proofs.Same.{same-before}

-- no interval is in two parts but one
pub fewer-parts : (a b e : ℕ) (ss : List Span) → a ≤ b → ascend e ss ≡ true → length (all_before a ss) + length (all_from b ss) ≤ length ss + 1
unfolding all_before all_from
fewer-parts a b e [] le h = omega arith
fewer-parts a b e (s ∷ ss) le h =
    let x = begins e s ss h in
    let rest = fewer-parts a b (end_of s.run) ss le x.rest in
    elim (leb a s.run.first) as (λ p. length (listed (cond p None (Some (part_of s.run.first (min (end_of s.run) a) s))) ++ all_before a ss) + length (listed (right_of b s) ++ all_from b ss) ≤ length (s ∷ ss) + 1) [
      | true ↦ elim (leb (end_of s.run) b) as (λ q. length (all_before a ss) + length (listed (cond q None (Some (part_of (max s.run.first b) (end_of s.run) s))) ++ all_from b ss) ≤ length (s ∷ ss) + 1) [
        | true ↦ omega arith
        | false ↦ omega arith
      ]
      | false ↦ elim (leb (end_of s.run) b) as (λ q. leb (end_of s.run) b ≡ q → suc (length (all_before a ss)) + length (listed (cond q None (Some (part_of (max s.run.first b) (end_of s.run) s))) ++ all_from b ss) ≤ length (s ∷ ss) + 1) [
        | true ↦ λ t. omega arith
        | false ↦ λ t.
            let lt : b < end_of s.run = grind (arith, nat_tests) in
            let none = ap length (all_before-above a ss (far a (end_of s.run) ss (omega arith) x.rest)) in
            let all = ap length (all_from-above b ss (far b (end_of s.run) ss (omega arith) x.rest)) in
            omega arith
      ] refl
    ]

pub listed-fewer : (run : PageRun) (value : Option ℕ) → length (listed (span_of run value)) ≤ 1
listed-fewer run None = omega arith
listed-fewer run (Some v) = omega arith

listed-ends : (run : PageRun) (value : Option ℕ) (e : ℕ) → e ≤ end_of run → end_from e (listed (span_of run value)) ≤ end_of run
listed-ends run None e le = le
listed-ends run (Some v) e le = omega arith

module _ (out rest new left : List Span) (run : PageRun) (value : Option ℕ) (h : ascend 0 (out ++ rest) ≡ true) (ends : end_from 0 out ≤ run.first) (some : 0 < run.count)
    (same : IsSame ((out ++ all_before run.first rest) ++ listed (span_of run value)) new) (is : left ≡ all_from (end_of run) rest) where
  front : ascend 0 out ≡ true
  front = ascend-left 0 out rest h

  behind : ascend (end_from 0 out) rest ≡ true
  behind = ascend-right 0 out rest h

  before : all_before run.first (out ++ rest) ≡ out ++ all_before run.first rest
  before = all_before-append run.first out rest ∙ ap (λ l. l ++ all_before run.first rest) (all_before-below run.first 0 out front ends)

  after : all_from (end_of run) (out ++ rest) ≡ all_from (end_of run) rest
  after = all_from-append (end_of run) out rest ∙ ap (λ l. l ++ all_from (end_of run) rest) (all_from-below (end_of run) 0 out front (omega arith))

  is_replaced : ((out ++ all_before run.first rest) ++ listed (span_of run value)) ++ left ≡ replaced run value (out ++ rest)
  is_replaced =
      ap (λ l. ((out ++ all_before run.first rest) ++ listed (span_of run value)) ++ l) is
      ∙ append_assoc (out ++ all_before run.first rest) (listed (span_of run value)) (all_from (end_of run) rest)
      ∙ rw (before, after) refl

  whole : IsSame (replaced run value (out ++ rest)) (new ++ left)
  whole = subst (λ (l : List Span). IsSame l (new ++ left)) is_replaced (same-before ((out ++ all_before run.first rest) ++ listed (span_of run value)) new left same)

  pub step-at : (n : ℕ) → value_at (new ++ left) n ≡ cond (in_run run n) value (value_at (out ++ rest) n)
  step-at n = let w = whole in w.at n ∙ value_at-replaced run value (out ++ rest) n

  pub step-ascends : ascend 0 (new ++ left) ≡ true
  step-ascends = let w = whole in w.ascends 0 (ascend-replaced run value (out ++ rest) some h)

  pub step-ends : end_from 0 new ≤ end_of run
  step-ends =
      let a = end_from-append 0 (out ++ all_before run.first rest) (listed (span_of run value)) in
      let b = end_from-append 0 out (all_before run.first rest) in
      let c = end_from-all_before run.first (end_from 0 out) (end_from 0 out) run.first rest behind ends (omega arith) in
      let d = listed-ends run value (end_from 0 (out ++ all_before run.first rest)) (omega (arith, b, c)) in
      let e = same.ends 0 in
      omega (arith, a, d, e)

  pub step-len : length new + length left ≤ length out + length rest + 2
  step-len =
      let a = length-append (out ++ all_before run.first rest) (listed (span_of run value)) in
      let b = length-append out (all_before run.first rest) in
      let c = listed-fewer run value in
      let d = fewer-parts run.first (end_of run) (end_from 0 out) rest (omega arith) behind in
      let l = ap length is in
      omega (arith, a, b, c, d, l, same.fewer)

-- ---- what is appended

some_right : (page : ℕ) (s : Span) → page < end_of s.run → right_of page s ≡ Some (part_of (max s.run.first page) (end_of s.run) s)
some_right page s lt = let e : leb (end_of s.run) page ≡ false = grind (arith, nat_tests) in rw e refl

none_left : (page : ℕ) (s : Span) → left_of page s ≡ None → page ≤ s.run.first
none_left page s e = elim (leb page s.run.first) as (λ b. leb page s.run.first ≡ b → cond b None (Some (part_of s.run.first (min (end_of s.run) page) s)) ≡ None → page ≤ s.run.first) [
  | true ↦ λ t h. leb-true _ _ t
  | false ↦ λ t h. absurd cc
] refl e

module _ (from to place : ℕ) (ss : List Span) (s : Span) (h : ascend 0 ss ≡ true) (lt : place < length ss) (is : s ≡ get_or ss place s) (below : end_from 0 (take place ss) ≤ from) (above : from < end_of s.run) where
  pub first_part : Span
  first_part = part_of (max s.run.first from) (end_of s.run) s

  pub part-right : right_of from s ≡ Some first_part
  unfolding first_part
  part-right = some_right from s above

  pub part-rest : all_from from ss ≡ first_part ∷ drop (suc place) ss
  part-rest = from_here from place ss s h lt is below above ∙ ap (λ o. listed o ++ drop (suc place) ss) part-right

  pub part-some : (part : Span) → left_of to first_part ≡ Some part → all_before to (all_from from ss) ≡ part ∷ all_before to (drop (suc place) ss)
  unfolding all_before
  part-some part e = ap (all_before to) part-rest ∙ ap (λ o. listed o ++ all_before to (drop (suc place) ss)) e

  pub part-none : left_of to first_part ≡ None → all_before to (all_from from ss) ≡ []
  unfolding all_before
  part-none e =
      let x = begins from first_part (drop (suc place) ss) (ap (ascend from) (sym part-rest) ∙ ascend-all_from from 0 ss h) in
      let le = none_left to first_part e in
      ap (all_before to) part-rest ∙ ap (λ o. listed o ++ all_before to (drop (suc place) ss)) e ∙ all_before-above to (drop (suc place) ss) (far to (end_of first_part.run) (drop (suc place) ss) (omega (arith, le)) x.rest)
