-- Two intervals that touch and have the same number are one.
use Rattle.std.proofs.Common.{◌≡◌, ℕ, ◌+◌, ◌≤◌, Bool, true, false, ◌&&◌, ◌||◌, cond, eqb, List, ◌∷◌, ◌++◌, Option, Some, None, refl, sym, subst, ◌∙◌, arith}
use Rattle.std.proofs.lemmas.Bool.Decides.{nat_tests}
use Rattle.base.specs.Pages.{in_run}
use Rattle.spans.specs.Spans.{Span, value_at, end_of, ascend, end_from}
use Rattle.spans.specs.Edits.{joined}
use Rattle.spans.proofs.Ascending.{begins, ascend-cons, ascend-left, ascend-right, ascend-append, value_at-append}

-- the first has the pages and the number of the two others
pub record AreOne (j s t : Span) : Type 0 where
  pub first : j.run.first ≡ s.run.first
  pub touch : end_of s.run ≡ t.run.first
  pub end : end_of j.run ≡ end_of t.run
  pub count : s.run.count ≤ j.run.count
  pub same_first : s.value ≡ j.value
  pub same_next : t.value ≡ j.value

pub are_one : (s t j : Span) → joined s t ≡ Some j → AreOne j s t
are_one s t j e =
    elim (eqb s.value t.value && eqb (end_of s.run) t.run.first) as (λ b. (eqb s.value t.value && eqb (end_of s.run) t.run.first) ≡ b
    → cond b (Some (record { run = record { first = s.run.first; count = s.run.count + t.run.count }; value = s.value })) None ≡ Some j → AreOne j s t) [
      | true ↦ λ is h.
          let same : record { run = record { first = s.run.first; count = s.run.count + t.run.count }; value = s.value } ≡ j = cc in
          let value : s.value ≡ t.value = grind (arith, nat_tests) in
          let touch : end_of s.run ≡ t.run.first = grind (arith, nat_tests) in
          subst (λ x. AreOne x s t) same (record { first = refl; touch = touch; end = omega arith; count = omega arith; same_first = refl; same_next = sym value })
      | false ↦ λ is h. absurd cc
    ] refl e

either : (a b c : Bool) (v : ℕ) (w : Option ℕ) → c ≡ (a || b) → cond a (Some v) (cond b (Some v) w) ≡ cond c (Some v) w
either true b c v w e = rw e refl
either false b c v w e = rw e refl

module _ (j s t : Span) (one : AreOne j s t) (ys : List Span) where
  pub value_at-one : (n : ℕ) → value_at (j ∷ ys) n ≡ value_at (s ∷ t ∷ ys) n
  value_at-one n =
      let is : in_run j.run n ≡ (in_run s.run n || in_run t.run n) = grind (arith, nat_tests, one.first, one.touch, one.end) in
      sym (rw (one.same_first, one.same_next) (either (in_run s.run n) (in_run t.run n) (in_run j.run n) j.value (value_at ys n) is))

  pub ascend-one : (e : ℕ) → ascend e (s ∷ t ∷ ys) ≡ true → ascend e (j ∷ ys) ≡ true
  ascend-one e h =
      let x = begins e s (t ∷ ys) h in
      let y = begins (end_of s.run) t ys x.rest in
      ascend-cons e j ys (omega (arith, one.first, x.from)) (omega (arith, one.count, x.some)) (rw one.end y.rest)

  -- the same behind others
  module _ (xs : List Span) where
    pub value_at-one_behind : (n : ℕ) → value_at (xs ++ j ∷ ys) n ≡ value_at (xs ++ s ∷ t ∷ ys) n
    value_at-one_behind n = value_at-append xs (j ∷ ys) n ∙ rw (value_at-one n) (sym (value_at-append xs (s ∷ t ∷ ys) n))

    pub ascend-one_behind : (e : ℕ) → ascend e (xs ++ s ∷ t ∷ ys) ≡ true → ascend e (xs ++ j ∷ ys) ≡ true
    ascend-one_behind e h =
        ascend-append e xs (j ∷ ys) (ascend-left e xs (s ∷ t ∷ ys) h) (ascend-one (end_from e xs) (ascend-right e xs (s ∷ t ∷ ys) h))
