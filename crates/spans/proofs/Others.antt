-- Intervals without those of one number.
use Rattle.std.proofs.Common.{◌≡◌, ℕ, ◌<◌, ◌≤◌, true, false, ◌||◌, cond, not, eqb, ltb, suc, ◌+◌, ◌-◌, List, [], ◌∷◌, ◌++◌, length, get_or, take, drop, leb, Bool, ◌&&◌, Option, Some, None, refl, sym, ap, subst, ◌∙◌, append_assoc, arith}
use Rattle.std.specs.List.{AllByRecursion}
use Rattle.std.specs.Option.{option_map_or}
use Rattle.std.proofs.lemmas.List.{get_or_default, take-append-drop}
use Rattle.std.proofs.Math.Seq.{drop-cons}
use Rattle.std.proofs.lemmas.List.Elements.{filter-append}
use Rattle.std.proofs.lemmas.Bool.{and_parts, eqb-true, ltb-true, ltb-false}
use Rattle.std.proofs.lemmas.Bool.Decides.{nat_tests}
use Rattle.base.specs.Pages.{PageRun, in_run, covers}
use Rattle.spans.specs.Spans.{Span, value_at, end_of, ascend, end_from, are_joined}
use Rattle.spans.specs.Taking.{has_number, others, IsTakenIn}
use Rattle.spans.proofs.Stacked.{all_joined}
use Rattle.spans.proofs.Edited.{covered_last}
use Rattle.spans.proofs.Joined.{joined-apart}
use Rattle.spans.proofs.Ascending.{begins, far, ascend-cons, ascend-left, ascend-right, ascend-append, out, value_at-append, value_at-behind, value_at-ahead}

-- ---- what is left

pub ascend-others : (value e : ℕ) (ss : List Span) → ascend e ss ≡ true → ascend e (others value ss) ≡ true
ascend-others value e [] h = refl
ascend-others value e (s ∷ ss) h =
    let x = begins e s ss h in
    let rest = ascend-others value (end_of s.run) ss x.rest in
    elim (eqb s.value value) as (λ b. ascend e (cond (not b) (s ∷ others value ss) (others value ss)) ≡ true) [
      | true ↦ far e (end_of s.run) (others value ss) (omega (arith, x.from)) rest
      | false ↦ ascend-cons e s (others value ss) x.from x.some rest
    ]

pub at-others : (value e : ℕ) (ss : List Span) (n : ℕ) → ascend e ss ≡ true → value_at (others value ss) n ≡ cond (has_number value ss n) None (value_at ss n)
at-others value e [] n h = refl
at-others value e (s ∷ ss) n h =
    let x = begins e s ss h in
    let left = others value ss in
    let rest = at-others value (end_of s.run) ss n x.rest in
    let here : in_run s.run n ≡ true → value_at left n ≡ None = λ t. value_at-ahead (end_of s.run) left n (ascend-others value (end_of s.run) ss x.rest) (ltb-true _ _ (and_parts _ (ltb n (end_of s.run)) t).1) in
    elim (in_run s.run n) as (λ b. in_run s.run n ≡ b → value_at (others value (s ∷ ss)) n ≡ cond (option_map_or (λ v. eqb v value) (cond b (Some s.value) (value_at ss n)) false) None (cond b (Some s.value) (value_at ss n))) [
      | true ↦ λ t. elim (eqb s.value value) as (λ q. value_at (cond (not q) (s ∷ left) left) n ≡ cond q None (Some s.value)) [
        | true ↦ here t
        | false ↦ rw t refl
      ]
      | false ↦ λ t. elim (eqb s.value value) as (λ q. value_at (cond (not q) (s ∷ left) left) n ≡ cond (has_number value ss n) None (value_at ss n)) [
        | true ↦ rest
        | false ↦ out s left n t ∙ rest
      ]
    ] refl

-- ---- intervals of other numbers, before others that stay

pub other_number : (a b : ℕ) → (a ≡ b → ⊥) → eqb a b ≡ false
other_number a b apart = elim (eqb a b) as (λ q. eqb a b ≡ q → q ≡ false) [
  | true ↦ λ t. absurd (apart (eqb-true a b t))
  | false ↦ λ t. refl
] refl

pub others-append : (value : ℕ) (xs ys : List Span) → others value (xs ++ ys) ≡ others value xs ++ others value ys
others-append value xs ys = filter-append (λ (s : Span). not (eqb s.value value)) xs ys

others-others : (value : ℕ) (ss : List Span) → others value (others value ss) ≡ others value ss
others-others value [] = refl
others-others value (s ∷ ss) = elim (eqb s.value value) as (λ b. eqb s.value value ≡ b → others value (cond (not b) (s ∷ others value ss) (others value ss)) ≡ cond (not b) (s ∷ others value ss) (others value ss)) [
  | true ↦ λ t. others-others value ss
  | false ↦ λ t. rw t (ap (λ l. s ∷ l) (others-others value ss))
] refl

pub fewer_others : (value : ℕ) (ss : List Span) → length (others value ss) ≤ length ss
fewer_others value [] = omega arith
fewer_others value (s ∷ ss) =
    let rest = fewer_others value ss in
    elim (eqb s.value value) as (λ b. length (cond (not b) (s ∷ others value ss) (others value ss)) ≤ length (s ∷ ss)) [ true ↦ omega arith | false ↦ omega arith ]

ascend-others_then : (value e : ℕ) (ss ys : List Span) → ascend e (ss ++ ys) ≡ true → ascend e (others value ss ++ ys) ≡ true
ascend-others_then value e [] ys h = h
ascend-others_then value e (s ∷ ss) ys h =
    let x = begins e s (ss ++ ys) h in
    let rest = ascend-others_then value (end_of s.run) ss ys x.rest in
    elim (eqb s.value value) as (λ b. ascend e (cond (not b) (s ∷ others value ss) (others value ss) ++ ys) ≡ true) [
      | true ↦ far e (end_of s.run) (others value ss ++ ys) (omega (arith, x.from)) rest
      | false ↦ ascend-cons e s (others value ss ++ ys) x.from x.some rest
    ]

none_has : (value : ℕ) (ss : List Span) (n : ℕ) → has_number value (others value ss) n ≡ false
none_has value [] n = refl
none_has value (s ∷ ss) n =
    let rest = none_has value ss n in
    elim (eqb s.value value) as (λ b. eqb s.value value ≡ b → has_number value (cond (not b) (s ∷ others value ss) (others value ss)) n ≡ false) [
      | true ↦ λ t. rest
      | false ↦ λ t. elim (in_run s.run n) as (λ b. option_map_or (λ v. eqb v value) (cond b (Some s.value) (value_at (others value ss) n)) false ≡ false) [ true ↦ t | false ↦ rest ]
    ] refl

-- ---- where the pages of the number are, there are its intervals

first_page : (run : PageRun) → 0 < run.count → in_run run run.first ≡ true
first_page run some = grind (arith, nat_tests)

pub same_number : (a b : ℕ) → a ≡ b → eqb a b ≡ true
same_number a b e = grind (arith, nat_tests)

has_none : (value : ℕ) (ss : List Span) (n : ℕ) → value_at ss n ≡ None → has_number value ss n ≡ true → ⊥
has_none value ss n none has = not_both (value_at ss n) none has
  where
    not_both : (o : Option ℕ) → o ≡ None → option_map_or (λ v. eqb v value) o false ≡ true → ⊥
    not_both None e is = absurd cc
    not_both (Some v) e is = absurd cc

has_later : (value : ℕ) (s : Span) (ss : List Span) (n : ℕ) → ascend (end_of s.run) ss ≡ true → has_number value ss n ≡ true → has_number value (s ∷ ss) n ≡ true
has_later value s ss n h has =
    elim (ltb n (end_of s.run)) as (λ q. ltb n (end_of s.run) ≡ q → has_number value (s ∷ ss) n ≡ true) [
      | true ↦ λ t. let none = value_at-ahead (end_of s.run) ss n h (ltb-true _ _ t) in absurd (has_none value ss n none has)
      | false ↦ λ t. rw (not_in_it s.run n t) has
    ] refl
  where
    not_in_it : (run : PageRun) (n : ℕ) → ltb n (end_of run) ≡ false → in_run run n ≡ false
    not_in_it run n t = grind (arith, nat_tests)

pub has_left : (value : ℕ) (xs ys : List Span) (n : ℕ) → has_number value xs n ≡ true → has_number value (xs ++ ys) n ≡ true
has_left value xs ys n has = ap (λ o. option_map_or (λ v. eqb v value) o false) (value_at-append xs ys n) ∙ kept (value_at xs n) (value_at ys n) has
  where
    kept : (o p : Option ℕ) → option_map_or (λ v. eqb v value) o false ≡ true → option_map_or (λ v. eqb v value) (option_map_or (λ (v : ℕ). Some v) o p) false ≡ true
    kept None p is = absurd cc
    kept (Some v) p is = is

pub has_right : (value e : ℕ) (xs ys : List Span) (n : ℕ) → ascend e (xs ++ ys) ≡ true → has_number value ys n ≡ true → has_number value (xs ++ ys) n ≡ true
has_right value e [] ys n h has = has
has_right value e (s ∷ xs) ys n h has =
    let x = begins e s (xs ++ ys) h in
    has_later value s (xs ++ ys) n x.rest (has_right value (end_of s.run) xs ys n x.rest has)

-- ---- those of a number go out between others

module _ (value first end : ℕ) (xs ms ys : List Span) (h : ascend 0 (xs ++ (ms ++ ys)) ≡ true) (below : end_from 0 xs ≤ first) (above : ascend end ys ≡ true) where
  gone_old : List Span
  gone_old = xs ++ (ms ++ ys)

  gone_new : List Span
  gone_new = xs ++ (others value ms ++ ys)

  stays : (n : ℕ) → has_number value ms n ≡ false → value_at gone_new n ≡ value_at gone_old n
  unfolding gone_old gone_new
  stays n not_here =
      let whole = ascend-right 0 xs (ms ++ ys) h in
      let middle = ascend-left (end_from 0 xs) ms ys whole in
      let same : value_at (others value ms) n ≡ value_at ms n = at-others value (end_from 0 xs) ms n middle ∙ rw not_here refl in
      value_at-append xs (others value ms ++ ys) n
      ∙ ap (λ o. option_map_or (λ (v : ℕ). Some v) (value_at xs n) o) (value_at-append (others value ms) ys n ∙ ap (λ o. option_map_or (λ (v : ℕ). Some v) o (value_at ys n)) same ∙ sym (value_at-append ms ys n))
      ∙ sym (value_at-append xs (ms ++ ys) n)

  gone_in : (n : ℕ) → first ≤ n → n < end → has_number value gone_new n ≡ false
  unfolding gone_new
  gone_in n from to =
      let none_before = value_at-behind 0 xs n (ascend-left 0 xs (ms ++ ys) h) (omega arith) in
      let none_behind = value_at-ahead end ys n above to in
      let at : value_at (xs ++ (others value ms ++ ys)) n ≡ value_at (others value ms) n =
      value_at-append xs (others value ms ++ ys) n ∙ rw none_before (value_at-append (others value ms) ys n ∙ rw none_behind (kept (value_at (others value ms) n))) in
      ap (λ o. option_map_or (λ v. eqb v value) o false) at ∙ none_has value ms n
    where
      kept : (o : Option ℕ) → option_map_or (λ (v : ℕ). Some v) o None ≡ o
      kept None = refl
      kept (Some v) = refl

  had_it : (n : ℕ) → has_number value gone_new n ≡ true → has_number value gone_old n ≡ true
  unfolding gone_old
  had_it n has =
      elim (has_number value ms n) as (λ b. has_number value ms n ≡ b → has_number value (xs ++ (ms ++ ys)) n ≡ true) [
        | true ↦ λ t. has_right value 0 xs (ms ++ ys) n h (has_left value ms ys n t)
        | false ↦ λ t. ap (λ o. option_map_or (λ v. eqb v value) o false) (sym (stays n t)) ∙ has
      ] refl

-- so they go
pub all_parts : {A : Type 0} (P : A → Type 0) (xs ys : List A) → AllByRecursion P (xs ++ ys) → AllByRecursion P xs × AllByRecursion P ys
all_parts P [] ys f = (tt, f)
all_parts P (x ∷ xs) ys f = let p = all_parts P xs ys f.1 in ((f.0, p.0), p.1)

all_others : (P : Span → Type 0) (value : ℕ) (ss : List Span) → AllByRecursion P ss → AllByRecursion P (others value ss)
all_others P value [] f = tt
all_others P value (s ∷ ss) f = elim (eqb s.value value) as (λ b. AllByRecursion P (cond (not b) (s ∷ others value ss) (others value ss))) [
  | true ↦ all_others P value ss f.1
  | false ↦ (f.0, all_others P value ss f.1)
]

module _ (value first end : ℕ) (old new : List Span) (t : IsTakenIn first end value old new) where
  pub taken-rest : others value new ≡ others value old
  taken-rest =
      let xs = t.before in
      let ms = t.between in
      let ys = t.behind in
      ap (others value) t.now ∙ others-append value xs (others value ms ++ ys)
      ∙ ap (λ l. others value xs ++ l) (others-append value (others value ms) ys ∙ ap (λ l. l ++ others value ys) (others-others value ms) ∙ sym (others-append value ms ys))
      ∙ sym (ap (others value) t.was ∙ others-append value xs (ms ++ ys))

  pub taken-all : (P : Span → Type 0) → AllByRecursion P old → AllByRecursion P new
  taken-all P f =
      let p = all_parts P t.before (t.between ++ t.behind) (subst (AllByRecursion P) t.was f) in
      let q = all_parts P t.between t.behind p.1 in
      subst (AllByRecursion P) (sym t.now) (all_joined P t.before (others value t.between ++ t.behind) p.0 (all_joined P (others value t.between) t.behind (all_others P value t.between q.0) q.1))

  module _ (h : ascend 0 old ≡ true) where
    up : ascend 0 (t.before ++ (t.between ++ t.behind)) ≡ true
    up = ap (ascend 0) (sym t.was) ∙ h

    pub taken-gone : (n : ℕ) → first ≤ n → n < end → has_number value new n ≡ false
    unfolding gone_new
    taken-gone n from to = ap (λ (l : List Span). has_number value l n) t.now ∙ gone_in value first end t.before t.between t.behind up t.below t.above n from to

    pub taken-had : (n : ℕ) → has_number value new n ≡ true → has_number value old n ≡ true
    unfolding gone_old gone_new
    taken-had n has = ap (λ (l : List Span). has_number value l n) t.was ∙ had_it value first end t.before t.between t.behind up t.below t.above n (ap (λ (l : List Span). has_number value l n) (sym t.now) ∙ has)

    pub taken-ascends : ascend 0 new ≡ true
    taken-ascends = ap (ascend 0) t.now ∙ ascend-append 0 t.before (others value t.between ++ t.behind) (ascend-left 0 t.before (t.between ++ t.behind) up) (ascend-others_then value (end_from 0 t.before) t.between t.behind (ascend-right 0 t.before (t.between ++ t.behind) up))

-- ---- where runs have the pages of the number

pub record IsFirst (runs : List PageRun) (page : ℕ) : Type 0 where
  pub place : ℕ
  pub inside : place < length runs
  pub here : (d : PageRun) → (get_or runs place d).first ≡ page

-- it begins where a run does, if it has the number
abbrev pub BeginsRun : ℕ → List PageRun → Span → Type 0
BeginsRun value runs s = s.value ≡ value → IsFirst runs s.run.first

record IsCoveredBy (runs : List PageRun) (page : ℕ) : Type 0 where
  place : ℕ
  inside : place < length runs
  here : (d : PageRun) → in_run (get_or runs place d) page ≡ true

covered_by : (runs : List PageRun) (n : ℕ) → covers runs n ≡ true → IsCoveredBy runs n
covered_by [] n h = absurd cc
covered_by (run ∷ runs) n h = elim (in_run run n) as (λ b. in_run run n ≡ b → (b || covers runs n) ≡ true → IsCoveredBy (run ∷ runs) n) [
  | true ↦ λ t k. record { place = 0; inside = omega arith; here = λ d. t }
  | false ↦ λ t k. let c = covered_by runs n k in record { place = suc c.place; inside = omega (arith, c.inside); here = c.here }
] refl h

has_some : (value : ℕ) (o : Option ℕ) → option_map_or (λ v. eqb v value) o false ≡ true → o ≡ Some value
has_some value None h = absurd cc
has_some value (Some v) h = ap (λ (x : ℕ). Some x) (eqb-true v value h)

within : (run : PageRun) (n m : ℕ) → in_run run n ≡ true → run.first ≤ m → m ≤ n → in_run run m ≡ true
within run n m is le le2 = grind (arith, nat_tests)

from_first : (run : PageRun) (n : ℕ) → in_run run n ≡ true → run.first ≤ n
from_first run n is = grind (arith, nat_tests)

module _ (value : ℕ) (runs : List PageRun) (all : List Span) (h : ascend 0 all ≡ true) (j : are_joined all ≡ true) (pages : (n : ℕ) → has_number value all n ≡ covers runs n) where
  begins_here : (xs : List Span) (s : Span) (ys : List Span) → xs ++ s ∷ ys ≡ all → BeginsRun value runs s
  begins_here xs s ys e is =
      let up : ascend 0 (xs ++ s ∷ ys) ≡ true = ap (ascend 0) e ∙ h in
      let x = begins (end_from 0 xs) s ys (ascend-right 0 xs (s ∷ ys) up) in
      let n = s.run.first in
      let here : value_at (s ∷ ys) n ≡ Some value = rw (first_page s.run x.some) (ap (λ (v : ℕ). Some v) is) in
      let whole : value_at all n ≡ Some value = ap (λ l. value_at l n) (sym e) ∙ value_at-append xs (s ∷ ys) n ∙ rw (value_at-behind 0 xs n (ascend-left 0 xs (s ∷ ys) up) x.from) here in
      let has : has_number value all n ≡ true = ap (λ o. option_map_or (λ v. eqb v value) o false) whole ∙ same_number value value refl in
      let c = covered_by runs n (sym (pages n) ∙ has) in
      record {
        place = c.place;
        inside = c.inside;
        here = λ d.
            let run = get_or runs c.place d in
            let le = from_first run n (c.here d) in
            elim (ltb run.first n) as (λ b. ltb run.first n ≡ b → run.first ≡ n) [
              | true ↦ λ t.
                  let lt = ltb-true _ _ t in
                  let m : ℕ = n - 1 in
                  let on : m + 1 ≡ n = omega arith in
                  let covered = covered_last runs c.place run m c.inside (get_or_default runs c.place d run c.inside) (within run n m (c.here d) (omega arith) (omega arith)) in
                  let had : value_at all m ≡ Some value = has_some value (value_at all m) (pages m ∙ covered) in
                  let none : value_at (s ∷ ys) m ≡ None = value_at-ahead n (s ∷ ys) m (ascend-cons n s ys (omega arith) x.some x.rest) (omega arith) in
                  let front : value_at xs m ≡ Some value = sym (kept (value_at xs m)) ∙ ap (λ (o : Option ℕ). option_map_or (λ (v : ℕ). Some v) (value_at xs m) o) (sym none) ∙ sym (value_at-append xs (s ∷ ys) m) ∙ ap (λ l. value_at l m) e ∙ had in
                  absurd (joined-apart 0 xs (s ∷ ys) up (ap are_joined e ∙ j) m value front (ap (value_at (s ∷ ys)) on ∙ here))
              | false ↦ λ t. let ge = ltb-false _ _ t in omega arith
            ] refl;
      }
    where
      kept : (o : Option ℕ) → option_map_or (λ (v : ℕ). Some v) o None ≡ o
      kept None = refl
      kept (Some v) = refl

  all_begin : (xs ys : List Span) → xs ++ ys ≡ all → AllByRecursion (BeginsRun value runs) ys
  all_begin xs [] e = tt
  all_begin xs (s ∷ ys) e = (begins_here xs s ys e, all_begin (xs ++ s ∷ []) ys (append_assoc xs (s ∷ []) ys ∙ e))

  pub all_begin_runs : AllByRecursion (BeginsRun value runs) all
  all_begin_runs = all_begin [] all refl

-- where no run begins in an interval of it, there is none
pub others_all : (value e : ℕ) (runs : List PageRun) (ss : List Span) → ascend e ss ≡ true → AllByRecursion (BeginsRun value runs) ss → ((i : ℕ) (d : PageRun) → i < length runs → has_number value ss (get_or runs i d).first ≡ false) → others value ss ≡ ss
others_all value e runs [] h f gone = refl
others_all value e runs (s ∷ ss) h f gone =
    let x = begins e s ss h in
    let rest = others_all value (end_of s.run) runs ss x.rest f.1 (λ i d lt. elim (has_number value ss (get_or runs i d).first) as (λ b. has_number value ss (get_or runs i d).first ≡ b → b ≡ false) [
      | true ↦ λ t. let has = has_later value s ss (get_or runs i d).first x.rest t in let no = gone i d lt in absurd (cc)
      | false ↦ λ t. refl
    ] refl) in
    let other = other_number s.value value (λ is.
    let p = f.0 is in
    let has : has_number value (s ∷ ss) s.run.first ≡ true = rw (first_page s.run x.some) (same_number s.value value is) in
    let no : has_number value (s ∷ ss) s.run.first ≡ false = ap (has_number value (s ∷ ss)) (sym (p.here s.run)) ∙ gone p.place s.run p.inside in
    absurd (cc)) in
    rw other (ap (λ l. s ∷ l) rest)

-- ---- the number of a page, by the first interval that ends behind it

module _ (value page place : ℕ) (ss : List Span) (s : Span) (h : ascend 0 ss ≡ true) (lt : place < length ss) (is : s ≡ get_or ss place s) (below : end_from 0 (take place ss) ≤ page) (above : page < end_of s.run) where
  rest : List Span
  rest = drop (suc place) ss

  parts : ss ≡ take place ss ++ s ∷ rest
  unfolding rest
  parts = sym (take-append-drop place ss) ∙ ap (λ l. take place ss ++ l) (drop-cons ss place s lt ∙ ap (λ x. x ∷ drop (suc place) ss) (sym is))

  whole : ascend 0 (take place ss ++ s ∷ rest) ≡ true
  whole = ap (ascend 0) (sym parts) ∙ h

  none_before : value_at (take place ss) page ≡ None
  none_before = value_at-behind 0 (take place ss) page (ascend-left 0 (take place ss) (s ∷ rest) whole) below

  none_behind : value_at rest page ≡ None
  none_behind = let x = begins (end_from 0 (take place ss)) s rest (ascend-right 0 (take place ss) (s ∷ rest) whole) in value_at-ahead (end_of s.run) rest page x.rest above

  here : in_run s.run page ≡ leb s.run.first page
  here = let t : ltb page (end_of s.run) ≡ true = grind (arith, nat_tests) in rw t (and_true (leb s.run.first page))
    where
      and_true : (b : Bool) → (b && true) ≡ b
      and_true true = refl
      and_true false = refl

  number : value_at ss page ≡ cond (leb s.run.first page) (Some s.value) None
  number = ap (λ l. value_at l page) parts ∙ value_at-append (take place ss) (s ∷ rest) page ∙ rw (none_before, none_behind, here) refl

  pub has-there : has_number value ss page ≡ (eqb s.value value && leb s.run.first page)
  has-there = ap (λ o. option_map_or (λ v. eqb v value) o false) number ∙ both (leb s.run.first page) (eqb s.value value) refl
    where
      both : (a b : Bool) → eqb s.value value ≡ b → option_map_or (λ v. eqb v value) (cond a (Some s.value) None) false ≡ (b && a)
      both true true e = e
      both true false e = e
      both false true e = refl
      both false false e = refl

pub no_number : (value : ℕ) (ss : List Span) (n : ℕ) → value_at ss n ≡ None → has_number value ss n ≡ false
no_number value ss n none = ap (λ o. option_map_or (λ v. eqb v value) o false) none

pub has-none : (value page : ℕ) (ss : List Span) → ascend 0 ss ≡ true → end_from 0 ss ≤ page → has_number value ss page ≡ false
has-none value page ss h below = ap (λ o. option_map_or (λ v. eqb v value) o false) (value_at-behind 0 ss page h below)
