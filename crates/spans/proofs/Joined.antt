-- Intervals that touch and have one number are one: parts of such a list, and what that says page by page.
use Rattle.std.proofs.Common.{◌≡◌, ℕ, ◌+◌, ◌-◌, ◌<◌, ◌≤◌, Bool, true, false, ◌&&◌, not, cond, eqb, leb, ltb, List, [], ◌∷◌, ◌++◌, max, min, Option, Some, None, refl, sym, ap, ◌∙◌, arith}
use Rattle.std.proofs.lemmas.Bool.{and_parts, and_from, leb-true, ltb-true, ltb-false}
use Rattle.std.proofs.lemmas.Bool.Decides.{nat_tests}
use Rattle.base.specs.Pages.{PageRun, in_run}
use Rattle.spans.specs.Spans.{Span, value_at, end_of, ascend, end_from, is_apart, are_joined}
use Rattle.spans.specs.Taking.{others}
use Rattle.spans.specs.Edits.{part_of, left_of, listed, all_before, all_from, joined}
use Rattle.spans.proofs.Ascending.{begins, far, ascend-left, ascend-right, least, out, ahead, value_at-ahead, in_first, in_last}
use Rattle.spans.proofs.Cutting.{whole_left}
use Rattle.spans.proofs.Parting.{all_before-above, all_from-above}

-- ---- parts of a list

pub joined-left : (xs ys : List Span) → are_joined (xs ++ ys) ≡ true → are_joined xs ≡ true
joined-left [] ys h = refl
joined-left (s ∷ []) ys h = refl
joined-left (s ∷ t ∷ xs) ys h =
    let parts = and_parts (is_apart s (t ∷ (xs ++ ys))) (are_joined (t ∷ (xs ++ ys))) h in
    and_from (is_apart s (t ∷ xs)) (are_joined (t ∷ xs)) parts.0 (joined-left (t ∷ xs) ys parts.1)

pub joined-right : (xs ys : List Span) → are_joined (xs ++ ys) ≡ true → are_joined ys ≡ true
joined-right [] ys h = h
joined-right (s ∷ xs) ys h = joined-right xs ys (and_parts (is_apart s (xs ++ ys)) (are_joined (xs ++ ys)) h).1

-- what matters of an interval is its number and where it ends
same_apart : (s w : Span) (ys : List Span) → w.value ≡ s.value → end_of w.run ≡ end_of s.run → is_apart w ys ≡ is_apart s ys
same_apart s w [] v e = refl
same_apart s w (t ∷ ys) v e = rw (v, e) refl

pub joined-as : (s w : Span) (ys : List Span) → w.value ≡ s.value → end_of w.run ≡ end_of s.run → are_joined (s ∷ ys) ≡ true → are_joined (w ∷ ys) ≡ true
joined-as s w ys v e h =
    let parts = and_parts (is_apart s ys) (are_joined ys) h in
    and_from (is_apart w ys) (are_joined ys) (same_apart s w ys v e ∙ parts.0) parts.1

-- the last of some is another one that begins where it did, and others follow
pub joined-swap : (xs : List Span) (s w : Span) (ys : List Span) → w.value ≡ s.value → w.run.first ≡ s.run.first → are_joined (xs ++ s ∷ []) ≡ true → are_joined (w ∷ ys) ≡ true → are_joined (xs ++ w ∷ ys) ≡ true
joined-swap [] s w ys v f h k = k
joined-swap (x ∷ []) s w ys v f h k =
    let parts = and_parts (is_apart x (s ∷ [])) (are_joined (s ∷ [])) h in
    let same : is_apart x (w ∷ ys) ≡ is_apart x (s ∷ []) = rw (v, f) refl in
    and_from (is_apart x (w ∷ ys)) (are_joined (w ∷ ys)) (same ∙ parts.0) k
joined-swap (x ∷ y ∷ xs) s w ys v f h k =
    let parts = and_parts (is_apart x (y ∷ (xs ++ s ∷ []))) (are_joined (y ∷ (xs ++ s ∷ []))) h in
    and_from (is_apart x (y ∷ (xs ++ w ∷ ys))) (are_joined (y ∷ (xs ++ w ∷ ys))) parts.0 (joined-swap (y ∷ xs) s w ys v f parts.1 k)

no_interval : (o : Option Span) (s : Span) → o ≡ None → o ≡ Some s → ⊥
no_interval o s a b = absurd (cc)

pub apart-none : (s t : Span) (ys : List Span) → joined s t ≡ None → is_apart s (t ∷ ys) ≡ true
apart-none s t ys e =
    let whole : Span = record { run = record { first = s.run.first; count = s.run.count + t.run.count }; value = s.value } in
    elim (eqb s.value t.value && eqb (end_of s.run) t.run.first) as (λ b. cond b (Some whole) None ≡ None → not b ≡ true) [
      | true ↦ λ h. absurd (no_interval (Some whole) whole h refl)
      | false ↦ λ h. refl
    ] e

-- ---- page by page

pub none_there : (o : Option ℕ) (v : ℕ) → o ≡ None → o ≡ Some v → ⊥
none_there o v a b = absurd (cc)

-- the page is in the only one
in_one : (s : Span) (n v : ℕ) → value_at (s ∷ []) n ≡ Some v → (in_run s.run n ≡ true) × (s.value ≡ v)
in_one s n v h = elim (in_run s.run n) as (λ b. cond b (Some s.value) None ≡ Some v → (b ≡ true) × (s.value ≡ v)) [
  | true ↦ λ k. (refl, cc)
  | false ↦ λ k. absurd cc
] h

-- a page up to where the first begins that has a number
at_first : (t : Span) (ys : List Span) (n v : ℕ) → 0 < t.run.count → ascend (end_of t.run) ys ≡ true → n ≤ t.run.first → value_at (t ∷ ys) n ≡ Some v → (n ≡ t.run.first) × (t.value ≡ v)
at_first t ys n v some up le h = elim (ltb n t.run.first) as (λ b. ltb n t.run.first ≡ b → (n ≡ t.run.first) × (t.value ≡ v)) [
  | true ↦ λ q.
      let lt = ltb-true _ _ q in
      let none = out t ys n (ahead t.run n lt) ∙ value_at-ahead (end_of t.run) ys n up (omega arith) in
      absurd (none_there (value_at (t ∷ ys) n) v none h)
  | false ↦ λ q.
      let e : n ≡ t.run.first = let l = ltb-false _ _ q in omega arith in
      let is : in_run t.run n ≡ true = ap (in_run t.run) e ∙ in_first t.run some in
      let here : value_at (t ∷ ys) n ≡ Some t.value = rw is refl in
      (e, cc)
] refl

touching : (s t : Span) → s.value ≡ t.value → end_of s.run ≡ t.run.first → (eqb s.value t.value && eqb (end_of s.run) t.run.first) ≡ true
touching s t v e = grind (arith, nat_tests)

not_true : (b : Bool) → not b ≡ true → b ≡ true → ⊥
not_true true a b = absurd cc
not_true false a b = absurd cc

last_page : (run : PageRun) (n : ℕ) → in_run run n ≡ true → n < end_of run
last_page run n is = grind (arith, nat_tests)

pub joined-apart : (e : ℕ) (xs ys : List Span) → ascend e (xs ++ ys) ≡ true → are_joined (xs ++ ys) ≡ true → (n v : ℕ) → value_at xs n ≡ Some v → value_at ys (n + 1) ≡ Some v → ⊥
joined-apart e [] ys h j n v a b = absurd cc
joined-apart e (s ∷ []) [] h j n v a b = absurd cc
joined-apart e (s ∷ []) (t ∷ ys) h j n v a b =
    let x = begins e s (t ∷ ys) h in
    let y = begins (end_of s.run) t ys x.rest in
    let i = in_one s n v a in
    let lt = last_page s.run n i.0 in
    let f = at_first t ys (n + 1) v y.some y.rest (omega (arith, y.from)) b in
    let apart = (and_parts (is_apart s (t ∷ ys)) (are_joined (t ∷ ys)) j).0 in
    not_true (eqb s.value t.value && eqb (end_of s.run) t.run.first) apart (touching s t (i.1 ∙ sym f.1) (let g = f.0 in omega (arith, g, y.from, lt)))
joined-apart e (s ∷ x ∷ xs) ys h j n v a b =
    let p = begins e s (x ∷ (xs ++ ys)) h in
    let q = begins (end_of s.run) x (xs ++ ys) p.rest in
    let up = ascend-right (end_of s.run) (x ∷ xs) ys p.rest in
    let l = least (end_of x.run) xs (ascend-left (end_of x.run) xs ys q.rest) in
    elim (in_run s.run n) as (λ c. in_run s.run n ≡ c → cond c (Some s.value) (value_at (x ∷ xs) n) ≡ Some v → ⊥) [
      | true ↦ λ is k.
          let lt = last_page s.run n is in
          let none = value_at-ahead (end_from (end_of s.run) (x ∷ xs)) ys (n + 1) up (omega (arith, lt, l, q.from, q.some)) in
          none_there (value_at ys (n + 1)) v none b
      | false ↦ λ is k. joined-apart (end_of s.run) (x ∷ xs) ys p.rest (and_parts (is_apart s (x ∷ (xs ++ ys))) (are_joined (x ∷ (xs ++ ys))) j).1 n v k b
    ] refl a

apart_one : (e : ℕ) (s t : Span) (ys : List Span) → ascend e (s ∷ t ∷ ys) ≡ true → ((n v : ℕ) → value_at (s ∷ []) n ≡ Some v → value_at (t ∷ ys) (n + 1) ≡ Some v → ⊥) → is_apart s (t ∷ ys) ≡ true
apart_one e s t ys h apart =
    let x = begins e s (t ∷ ys) h in
    let y = begins (end_of s.run) t ys x.rest in
    elim (eqb s.value t.value && eqb (end_of s.run) t.run.first) as (λ b. (eqb s.value t.value && eqb (end_of s.run) t.run.first) ≡ b → not b ≡ true) [
      | true ↦ λ q.
          let value : s.value ≡ t.value = grind (arith, nat_tests) in
          let touch : end_of s.run ≡ t.run.first = grind (arith, nat_tests) in
          let a : value_at (s ∷ []) (end_of s.run - 1) ≡ Some s.value = rw (in_last s.run x.some) refl in
          let on : end_of s.run - 1 + 1 ≡ t.run.first = omega (arith, touch, x.some) in
          let is : in_run t.run (end_of s.run - 1 + 1) ≡ true = ap (in_run t.run) on ∙ in_first t.run y.some in
          let b : value_at (t ∷ ys) (end_of s.run - 1 + 1) ≡ Some t.value = rw is refl in
          absurd (apart (end_of s.run - 1) s.value a (b ∙ ap (λ (v : ℕ). Some v) (sym value)))
      | false ↦ λ q. refl
    ] refl

pub joined-both : (e : ℕ) (xs ys : List Span) → ascend e (xs ++ ys) ≡ true → are_joined xs ≡ true → are_joined ys ≡ true → ((n v : ℕ) → value_at xs n ≡ Some v → value_at ys (n + 1) ≡ Some v → ⊥) → are_joined (xs ++ ys) ≡ true
joined-both e [] ys h j k apart = k
joined-both e (s ∷ []) [] h j k apart = refl
joined-both e (s ∷ []) (t ∷ ys) h j k apart = and_from (is_apart s (t ∷ ys)) (are_joined (t ∷ ys)) (apart_one e s t ys h apart) k
joined-both e (s ∷ x ∷ xs) ys h j k apart =
    let p = begins e s (x ∷ (xs ++ ys)) h in
    let parts = and_parts (is_apart s (x ∷ xs)) (are_joined (x ∷ xs)) j in
    and_from (is_apart s (x ∷ (xs ++ ys))) (are_joined (x ∷ (xs ++ ys))) parts.0
    (joined-both (end_of s.run) (x ∷ xs) ys p.rest parts.1 k (λ n v a b.
    elim (in_run s.run n) as (λ c. in_run s.run n ≡ c → ⊥) [
      | true ↦ λ is. none_there (value_at (x ∷ xs) n) v (value_at-ahead (end_of s.run) (x ∷ xs) n (ascend-left (end_of s.run) (x ∷ xs) ys p.rest) (last_page s.run n is)) a
      | false ↦ λ is. apart n v (out s (x ∷ xs) n is ∙ a) b
    ] refl))

-- ---- from a page on

pub joined-from : (page e : ℕ) (ss : List Span) → ascend e ss ≡ true → are_joined ss ≡ true → are_joined (all_from page ss) ≡ true
unfolding all_from
joined-from page e [] h j = refl
joined-from page e (s ∷ ss) h j =
    let x = begins e s ss h in
    let parts = and_parts (is_apart s ss) (are_joined ss) j in
    elim (leb (end_of s.run) page) as (λ b. leb (end_of s.run) page ≡ b → are_joined (listed (cond b None (Some (part_of (max s.run.first page) (end_of s.run) s))) ++ all_from page ss) ≡ true) [
      | true ↦ λ t. joined-from page (end_of s.run) ss x.rest parts.1
      | false ↦ λ t.
          let lt : page < end_of s.run = grind (arith, nat_tests) in
          let rest = all_from-above page ss (far page (end_of s.run) ss (omega arith) x.rest) in
          let w = part_of (max s.run.first page) (end_of s.run) s in
          let same : end_of w.run ≡ end_of s.run = omega (arith, x.some) in
          ap (λ (l : List Span). are_joined (w ∷ l)) rest ∙ joined-as s w ss refl same j
    ] refl

-- ---- before a page

before_apart : (page e : ℕ) (s : Span) (ss : List Span) → ascend e ss ≡ true → is_apart s ss ≡ true → is_apart s (all_before page ss) ≡ true
unfolding all_before
before_apart page e s [] h a = refl
before_apart page e s (t ∷ ss) h a =
    let y = begins e t ss h in
    elim (leb page t.run.first) as (λ b. leb page t.run.first ≡ b → is_apart s (listed (cond b None (Some (part_of t.run.first (min (end_of t.run) page) t))) ++ all_before page ss) ≡ true) [
      | true ↦ λ q. rw (all_before-above page ss (far page (end_of t.run) ss (let l = leb-true _ _ q in omega arith) y.rest)) refl
      | false ↦ λ q. a
    ] refl

pub joined-before : (page e : ℕ) (ss : List Span) → ascend e ss ≡ true → are_joined ss ≡ true → are_joined (all_before page ss) ≡ true
unfolding all_before
joined-before page e [] h j = refl
joined-before page e (s ∷ ss) h j =
    let x = begins e s ss h in
    let parts = and_parts (is_apart s ss) (are_joined ss) j in
    let rest = joined-before page (end_of s.run) ss x.rest parts.1 in
    elim (leb (end_of s.run) page) as (λ b. leb (end_of s.run) page ≡ b → are_joined (listed (left_of page s) ++ all_before page ss) ≡ true) [
      | true ↦ λ t. rw (whole_left page s x.some (leb-true _ _ t)) (and_from (is_apart s (all_before page ss)) (are_joined (all_before page ss)) (before_apart page (end_of s.run) s ss x.rest parts.0) rest)
      | false ↦ λ t. rw (all_before-above page ss (far page (end_of s.run) ss (grind (arith, nat_tests)) x.rest)) (one_joined (left_of page s))
    ] refl
  where
    one_joined : (o : Option Span) → are_joined (listed o ++ []) ≡ true
    one_joined None = refl
    one_joined (Some w) = refl

-- ---- without those of one number

-- what is left begins where the first did, or behind its end
others_apart : (value : ℕ) (s : Span) (e : ℕ) (ss : List Span) → end_of s.run ≤ e → ascend e ss ≡ true → is_apart s ss ≡ true → is_apart s (others value ss) ≡ true
others_apart value s e [] le h a = refl
others_apart value s e (t ∷ ss) le h a =
    let x = begins e t ss h in
    elim (eqb t.value value) as (λ b. is_apart s (cond (not b) (t ∷ others value ss) (others value ss)) ≡ true) [
      | true ↦ others_behind value s (end_of t.run) ss (omega (arith, x.from, x.some, le)) x.rest
      | false ↦ a
    ]
  where
    -- it ends before all of these
    others_behind : (value : ℕ) (s : Span) (e : ℕ) (ss : List Span) → end_of s.run < e → ascend e ss ≡ true → is_apart s (others value ss) ≡ true
    others_behind value s e [] lt h = refl
    others_behind value s e (t ∷ ss) lt h =
        let x = begins e t ss h in
        elim (eqb t.value value) as (λ b. is_apart s (cond (not b) (t ∷ others value ss) (others value ss)) ≡ true) [
          | true ↦ others_behind value s (end_of t.run) ss (omega (arith, x.from, x.some, lt)) x.rest
          | false ↦
              let far_off : eqb (end_of s.run) t.run.first ≡ false = grind (arith, nat_tests, x.from) in
              rw far_off (not_both (eqb s.value t.value))
        ]
      where
        not_both : (b : Bool) → not (b && false) ≡ true
        not_both true = refl
        not_both false = refl

pub joined-others : (value e : ℕ) (ss : List Span) → ascend e ss ≡ true → are_joined ss ≡ true → are_joined (others value ss) ≡ true
joined-others value e [] h j = refl
joined-others value e (s ∷ ss) h j =
    let x = begins e s ss h in
    let parts = and_parts (is_apart s ss) (are_joined ss) j in
    let rest = joined-others value (end_of s.run) ss x.rest parts.1 in
    elim (eqb s.value value) as (λ b. are_joined (cond (not b) (s ∷ others value ss) (others value ss)) ≡ true) [
      | true ↦ rest
      | false ↦ and_from (is_apart s (others value ss)) (are_joined (others value ss)) (others_apart value s (end_of s.run) ss (omega arith) x.rest parts.0) rest
    ]
