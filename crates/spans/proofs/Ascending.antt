-- Intervals in ascending order: parts of the list, and the numbers of pages between them.
use Rattle.std.proofs.Common.{◌≡◌, ℕ, zero, suc, ◌+◌, ◌-◌, ◌<◌, ◌≤◌, true, false, ◌&&◌, cond, leb, ltb, List, [], ◌∷◌, ◌++◌, length, get_or, take, drop, Some, None, refl, sym, ap, ◌∙◌, arith}
use Rattle.std.specs.Option.{option_map_or}
use Rattle.std.specs.List.{AllWithin}
use Rattle.std.specs.List.Sorted.{IsNonDecreasingBy}
use Rattle.std.proofs.lemmas.List.{take-append-drop, take_all}
use Rattle.std.proofs.lemmas.Bool.{and_parts, and_from, leb-true, ltb-true}
use Rattle.std.proofs.lemmas.Bool.Decides.{nat_tests}
use Rattle.base.specs.Pages.{PageRun, in_run}
use Rattle.spans.specs.Spans.{Span, value_at, end_of, ascend, end_from}

pub record Begins (e : ℕ) (s : Span) (ss : List Span) : Type 0 where
  pub from : e ≤ s.run.first
  pub some : 0 < s.run.count
  pub rest : ascend (end_of s.run) ss ≡ true

pub begins : (e : ℕ) (s : Span) (ss : List Span) → ascend e (s ∷ ss) ≡ true → Begins e s ss
begins e s ss h =
    let parts = and_parts (leb e s.run.first && ltb 0 s.run.count) (ascend (end_of s.run) ss) h in
    let front = and_parts (leb e s.run.first) (ltb 0 s.run.count) parts.0 in
    record { from = leb-true _ _ front.0; some = ltb-true _ _ front.1; rest = parts.1 }

pub ascend-cons : (e : ℕ) (s : Span) (ss : List Span) → e ≤ s.run.first → 0 < s.run.count → ascend (end_of s.run) ss ≡ true → ascend e (s ∷ ss) ≡ true
ascend-cons e s ss le some h =
    let a : leb e s.run.first ≡ true = grind (arith, nat_tests) in
    let b : ltb 0 s.run.count ≡ true = grind (arith, nat_tests) in
    and_from (leb e s.run.first && ltb 0 s.run.count) _ (and_from (leb e s.run.first) (ltb 0 s.run.count) a b) h

pub far : (a b : ℕ) (ss : List Span) → a ≤ b → ascend b ss ≡ true → ascend a ss ≡ true
far a b [] le h = refl
far a b (s ∷ ss) le h = let x = begins b s ss h in ascend-cons a s ss (omega (arith, x.from)) x.some x.rest

pub first_from : (e : ℕ) (s : Span) (ss : List Span) → ascend e (s ∷ ss) ≡ true → e ≤ s.run.first
first_from e s ss h = (begins e s ss h).from

pub rest_from : (e : ℕ) (s : Span) (ss : List Span) → ascend e (s ∷ ss) ≡ true → ascend (end_of s.run) ss ≡ true
rest_from e s ss h = (begins e s ss h).rest

-- ---- the parts of a list

pub end_from-append : (e : ℕ) (xs ys : List Span) → end_from e (xs ++ ys) ≡ end_from (end_from e xs) ys
end_from-append e [] ys = refl
end_from-append e (s ∷ xs) ys = end_from-append (end_of s.run) xs ys

pub ascend-left : (e : ℕ) (xs ys : List Span) → ascend e (xs ++ ys) ≡ true → ascend e xs ≡ true
ascend-left e [] ys h = refl
ascend-left e (s ∷ xs) ys h = let x = begins e s (xs ++ ys) h in ascend-cons e s xs x.from x.some (ascend-left (end_of s.run) xs ys x.rest)

pub ascend-right : (e : ℕ) (xs ys : List Span) → ascend e (xs ++ ys) ≡ true → ascend (end_from e xs) ys ≡ true
ascend-right e [] ys h = h
ascend-right e (s ∷ xs) ys h = ascend-right (end_of s.run) xs ys (rest_from e s (xs ++ ys) h)

pub ascend-append : (e : ℕ) (xs ys : List Span) → ascend e xs ≡ true → ascend (end_from e xs) ys ≡ true → ascend e (xs ++ ys) ≡ true
ascend-append e [] ys h k = k
ascend-append e (s ∷ xs) ys h k = let x = begins e s xs h in ascend-cons e s (xs ++ ys) x.from x.some (ascend-append (end_of s.run) xs ys x.rest k)

pub least : (e : ℕ) (ss : List Span) → ascend e ss ≡ true → e ≤ end_from e ss
least e [] h = omega arith
least e (s ∷ ss) h =
    let a = first_from e s ss h in
    let b = least (end_of s.run) ss (rest_from e s ss h) in
    omega arith

-- ---- the numbers of pages

pub value_at-append : (xs ys : List Span) (n : ℕ) → value_at (xs ++ ys) n ≡ option_map_or (λ (v : ℕ). Some v) (value_at xs n) (value_at ys n)
value_at-append [] ys n = refl
value_at-append (s ∷ xs) ys n =
    elim (in_run s.run n) as (λ b. cond b (Some s.value) (value_at (xs ++ ys) n) ≡ option_map_or (λ (v : ℕ). Some v) (cond b (Some s.value) (value_at xs n)) (value_at ys n)) [
      | true ↦ refl
      | false ↦ value_at-append xs ys n
    ]

pub out : (s : Span) (ss : List Span) (n : ℕ) → in_run s.run n ≡ false → value_at (s ∷ ss) n ≡ value_at ss n
out s ss n h = rw h refl

pub behind : (run : PageRun) (n : ℕ) → end_of run ≤ n → in_run run n ≡ false
behind run n le = grind (arith, nat_tests)

pub ahead : (run : PageRun) (n : ℕ) → n < run.first → in_run run n ≡ false
ahead run n lt = grind (arith, nat_tests)

-- pages behind the last interval have none
pub value_at-behind : (e : ℕ) (ss : List Span) (n : ℕ) → ascend e ss ≡ true → end_from e ss ≤ n → value_at ss n ≡ None
value_at-behind e [] n h le = refl
value_at-behind e (s ∷ ss) n h le =
    let rest = rest_from e s ss h in
    let b = least (end_of s.run) ss rest in
    out s ss n (behind s.run n (omega arith)) ∙ value_at-behind (end_of s.run) ss n rest le

-- nor have those ahead of the first
pub value_at-ahead : (e : ℕ) (ss : List Span) (n : ℕ) → ascend e ss ≡ true → n < e → value_at ss n ≡ None
value_at-ahead e [] n h lt = refl
value_at-ahead e (s ∷ ss) n h lt =
    let a = first_from e s ss h in
    let lt2 : n < s.run.first = omega arith in
    out s ss n (ahead s.run n lt2) ∙ value_at-ahead (end_of s.run) ss n (rest_from e s ss h) (omega arith)

pub in_first : (run : PageRun) → 0 < run.count → in_run run run.first ≡ true
in_first run some = grind (arith, nat_tests)

pub in_last : (run : PageRun) → 0 < run.count → in_run run (end_of run - 1) ≡ true
in_last run some = grind (arith, nat_tests)

-- ---- by index

-- the end of the first i + 1
pub end_from-take : (e i : ℕ) (ss : List Span) (d : Span) → i < length ss → end_from e (take (suc i) ss) ≡ end_of (get_or ss i d).run
end_from-take e i [] d lt = absurd (omega arith)
end_from-take e zero (s ∷ ss) d lt = refl
end_from-take e (suc i) (s ∷ ss) d lt = end_from-take (end_of s.run) i ss d (omega arith)

pub end_from-last : (ss : List Span) (i : ℕ) (d : Span) → i + 1 ≡ length ss → end_from 0 ss ≡ end_of (get_or ss i d).run
end_from-last ss i d last =
    ap (end_from 0) (sym (take_all (suc i) ss (omega arith))) ∙ end_from-take 0 i ss d (omega arith)

end_at_least : (e j : ℕ) (ss : List Span) (d : Span) → ascend e ss ≡ true → j < length ss → e ≤ end_of (get_or ss j d).run
end_at_least e j [] d h lt = absurd (omega arith)
end_at_least e zero (s ∷ ss) d h lt = let a = first_from e s ss h in omega arith
end_at_least e (suc j) (s ∷ ss) d h lt =
    let a = first_from e s ss h in
    let b = end_at_least (end_of s.run) j ss d (rest_from e s ss h) (omega arith) in
    omega arith

-- the ends ascend, too
pub ends_ascend : (e : ℕ) (ss : List Span) → ascend e ss ≡ true → IsNonDecreasingBy (λ s. end_of s.run) ss
ends_ascend e [] h i j d le lt = absurd (omega arith)
ends_ascend e (s ∷ ss) h zero zero d le lt = omega arith
ends_ascend e (s ∷ ss) h zero (suc j) d le lt = end_at_least (end_of s.run) j ss d (rest_from e s ss h) (omega arith)
ends_ascend e (s ∷ ss) h (suc i) zero d le lt = absurd (omega arith)
ends_ascend e (s ∷ ss) h (suc i) (suc j) d le lt = ends_ascend (end_of s.run) ss (rest_from e s ss h) i j d (omega arith) (omega arith)

-- where each of the first i ends at a page or before it, the last of them does
pub ends_before : (ss : List Span) (i page : ℕ) → i ≤ length ss → AllWithin (λ s. leb (end_of s.run) page ≡ true) ss 0 i → end_from 0 (take i ss) ≤ page
ends_before ss zero page le h = omega arith
ends_before [] (suc i) page le h = absurd (omega arith)
ends_before (s ∷ ss) (suc i) page le h =
    let last : end_of (get_or (s ∷ ss) i s).run ≤ page = leb-true _ _ (h i s (omega arith) (omega arith)) in
    rw (end_from-take 0 i (s ∷ ss) s (omega arith)) last

pub ascend-taken : (i : ℕ) (ss : List Span) → ascend 0 ss ≡ true → ascend 0 (take i ss) ≡ true
ascend-taken i ss h = ascend-left 0 (take i ss) (drop i ss) (ap (ascend 0) (take-append-drop i ss) ∙ h)

pub ascend-dropped : (i : ℕ) (ss : List Span) → ascend 0 ss ≡ true → ascend 0 (drop i ss) ≡ true
ascend-dropped i ss h = far 0 (end_from 0 (take i ss)) (drop i ss) (omega arith) (ascend-right 0 (take i ss) (drop i ss) (ap (ascend 0) (take-append-drop i ss) ∙ h))

-- where some end behind the page, others do
pub end_from-both : (e page : ℕ) (ss : List Span) → e ≤ page → end_from 0 ss ≤ page → end_from e ss ≤ page
end_from-both e page [] le h = le
end_from-both e page (s ∷ ss) le h = h
