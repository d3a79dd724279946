-- Maximal runs, which stand upward: how many there are, and how many chunks they touch.
use Rattle.std.proofs.Common.{◌≡◌, ℕ, zero, suc, ◌+◌, ◌-◌, ◌<◌, ◌≤◌, true, Bool, leb, ltb, ◌&&◌, List, [], ◌∷◌, get_or, length, take, drop, inl, inr, refl, arith, ap, ◌∙◌}
use Rattle.stage2.proofs.Names.{common_steps, list_any, nat_tests, end_from, lie_within, PageRun, rise_above, are_normal, cases_Bool, cases_eq, ltb-true, and_parts}
use Rattle.std.specs.List.Sorted.{IsNonDecreasingBy}

abbrev pub end_of : PageRun → ℕ
end_of run = run.first + run.count

abbrev pub first_of : PageRun → ℕ
first_of run = run.first

-- ---- runs that stand upward

pub rise-parts : (end : ℕ) (r : PageRun) (runs : List PageRun) → rise_above end (r ∷ runs) ≡ true → (end < r.first) × (rise_above (end_of r) runs ≡ true)
rise-parts end r runs e = let both = and_parts (ltb end r.first) (rise_above (end_of r) runs) e in (ltb-true _ _ both.0, both.1)

rise-first : (end : ℕ) (runs : List PageRun) (j : ℕ) (d : PageRun) → rise_above end runs ≡ true → j < length runs → end < (get_or runs j d).first
rise-first end [] j d e below = absurd (omega arith)
rise-first end (r ∷ runs) zero d e below = (rise-parts end r runs e).0
rise-first end (r ∷ runs) (suc j) d e below = let h = rise-parts end r runs e in let first = h.0 in let rest = rise-first (end_of r) runs j d h.1 (omega arith) in omega (arith, first, rest)

pub rise-normal : (end : ℕ) (runs : List PageRun) → rise_above end runs ≡ true → are_normal runs ≡ true
rise-normal end runs e = grind (arith, common_steps, nat_tests, rise-parts)

-- between each and a later one there is a page
normal-apart : (runs : List PageRun) (i j : ℕ) (d : PageRun) → are_normal runs ≡ true → i < j → j < length runs → end_of (get_or runs i d) < (get_or runs j d).first
normal-apart [] i j d e lt below = absurd (omega arith)
normal-apart (r ∷ runs) i zero d e lt below = absurd (omega arith)
normal-apart (r ∷ runs) zero (suc j) d e lt below = rise-first (end_of r) runs j d e (omega arith)
normal-apart (r ∷ runs) (suc i) (suc j) d e lt below = normal-apart runs i j d (rise-normal (end_of r) runs e) (omega arith) (omega arith)

-- so they rise by what is no more than a run's end and no less than its first page
by-rise : (f : PageRun → ℕ) (runs : List PageRun) → ((r : PageRun) → (r.first ≤ f r) × (f r ≤ end_of r)) → are_normal runs ≡ true → IsNonDecreasingBy f runs
by-rise f runs between e i j d le below = elim (cases_eq i j) [
  | inl is ↦ rw is (omega arith)
  | inr other ↦ omega (arith, normal-apart runs i j d e (omega (arith, le, other)) below, (between (get_or runs i d)).1, (between (get_or runs j d)).0)
]

pub ends-rise : (runs : List PageRun) → are_normal runs ≡ true → IsNonDecreasingBy end_of runs
ends-rise runs = by-rise end_of runs (λ r. (omega arith, omega arith))

pub firsts-rise : (runs : List PageRun) → are_normal runs ≡ true → IsNonDecreasingBy first_of runs
firsts-rise runs = by-rise first_of runs (λ r. (omega arith, omega arith))

pub normal-drop : (n : ℕ) (runs : List PageRun) → are_normal runs ≡ true → are_normal (drop n runs) ≡ true
normal-drop zero runs e = e
normal-drop (suc n) [] e = refl
normal-drop (suc n) (r ∷ runs) e = normal-drop n runs (rise-normal (end_of r) runs e)

rise-take : (end n : ℕ) (runs : List PageRun) → rise_above end runs ≡ true → rise_above end (take n runs) ≡ true
rise-take end zero runs e = refl
rise-take end (suc n) [] e = refl
rise-take end (suc n) (r ∷ runs) e = let h = rise-parts end r runs e in let first = h.0 in let rest = rise-take (end_of r) n runs h.1 in rw rest (grind (arith, nat_tests))

pub normal-take : (n : ℕ) (runs : List PageRun) → are_normal runs ≡ true → are_normal (take n runs) ≡ true
normal-take zero runs e = refl
normal-take (suc n) [] e = refl
normal-take (suc n) (r ∷ runs) e = rise-take (end_of r) n runs e

-- ---- how many they are

rise-next : (end : ℕ) (runs : List PageRun) (i : ℕ) (run : PageRun) → rise_above end runs ≡ true → i < length runs → run ≡ get_or runs i run
    → (end_from end (take i runs) < run.first) × (end_from end (take (suc i) runs) ≡ end_of run)
rise-next end [] i run rises lt is = absurd (omega arith)
rise-next end (r ∷ runs) zero run rises lt is = rw is ((rise-parts end r runs rises).0, refl)
rise-next end (r ∷ runs) (suc i) run rises lt is = rise-next (end_of r) runs i run (rise-parts end r runs rises).1 (omega arith) is

pub normal-next : (runs : List PageRun) (i : ℕ) (run : PageRun) → are_normal runs ≡ true → i < length runs → run ≡ get_or runs i run
    → (end_from 0 (take i runs) ≤ run.first) × (end_from 0 (take (suc i) runs) ≡ end_of run)
normal-next [] i run normal lt is = absurd (omega arith)
normal-next (r ∷ runs) zero run normal lt is = (omega arith, rw is refl)
normal-next (r ∷ runs) (suc i) run normal lt is = grind (arith, common_steps, nat_tests, rise-next (end_of r) runs i run normal (omega arith) is)

-- ---- where they begin and end

pub from-rise : (end : ℕ) (runs : List PageRun) → rise_above end runs ≡ true → end ≤ end_from end runs
from-rise end [] rises = omega arith
from-rise end (r ∷ runs) rises =
    let parts = and_parts (ltb end r.first) (rise_above (end_of r) runs) rises in
    omega (arith, ltb-true _ _ parts.0, from-rise (end_of r) runs parts.1)

rise-within : (low end high : ℕ) (runs : List PageRun) → rise_above end runs ≡ true → low ≤ end → end_from end runs ≤ high → lie_within low high runs ≡ true
rise-within low end high [] rises least most = refl
rise-within low end high (r ∷ runs) rises least most =
    let parts = rise-parts end r runs rises in
    let above = parts.0 in
    let behind = from-rise (end_of r) runs parts.1 in
    let here : (leb low r.first && leb (end_of r) high) ≡ true = (let begins : low ≤ r.first = omega (arith, least, above) in let ends : end_of r ≤ high = omega (arith, behind, most) in grind (arith, nat_tests, begins, ends)) in
    rw (here, rise-within low (end_of r) high runs parts.1 (omega (arith, least, above)) most) refl

pub normal-within : (runs : List PageRun) (run : PageRun) (high : ℕ) → are_normal runs ≡ true → 0 < length runs → run ≡ get_or runs 0 run → end_from 0 runs ≤ high → lie_within run.first high runs ≡ true
normal-within [] run high normal some is most = absurd (omega arith)
normal-within (r ∷ runs) run high normal some is most =
    let here : (leb run.first r.first && leb (end_of r) high) ≡ true = (let ends : end_of r ≤ high = omega (arith, from-rise (end_of r) runs normal, most) in rw is (grind (arith, nat_tests, ends))) in
    rw (here, rise-within run.first (end_of r) high runs normal (rw is (omega arith)) most) refl

rise-few : (end : ℕ) (runs : List PageRun) → rise_above end runs ≡ true → end + length runs ≤ end_from end runs
rise-few end [] rises = omega arith
rise-few end (r ∷ runs) rises = let parts = rise-parts end r runs rises in let first = parts.0 in let rest = rise-few (end_of r) runs parts.1 in omega (arith, first, rest)

-- there are no more than pages
pub normal-few : (runs : List PageRun) → are_normal runs ≡ true → length runs ≤ end_from 0 runs + 1
normal-few runs normal = grind (arith, common_steps, nat_tests, rise-few)

-- the first begins before the last ends
pub normal-first : (runs : List PageRun) (run : PageRun) → are_normal runs ≡ true → 0 < length runs → run ≡ get_or runs 0 run → run.first ≤ end_from 0 runs
normal-first runs run normal some is = grind (arith, common_steps, nat_tests, from-rise)

-- the last one's end
last-end : (end : ℕ) (runs : List PageRun) (run : PageRun) → 0 < length runs → run ≡ get_or runs (length runs - 1) run → end_from end runs ≡ end_of run
last-end end [] run some is = absurd (omega arith)
last-end end (r ∷ []) run some is = rw is refl
last-end end (r ∷ s ∷ runs) run some is =
    let index : length (r ∷ s ∷ runs) - 1 ≡ suc (length (s ∷ runs) - 1) = omega arith in
    last-end (end_of r) (s ∷ runs) run (omega arith) (is ∙ ap (λ k. get_or (r ∷ s ∷ runs) k run) index)

pub end-last : (runs : List PageRun) (run : PageRun) → 0 < length runs → run ≡ get_or runs (length runs - 1) run → end_from 0 runs ≡ end_of run
end-last runs run some is = last-end 0 runs run some is

-- one of the runs, of which each lies within
pub any-within : (p : PageRun → Bool) (low high : ℕ) (runs : List PageRun) → list_any p runs ≡ true → lie_within low high runs ≡ true → (r : PageRun) × (p r ≡ true) × (low ≤ r.first) × (end_of r ≤ high)
any-within p low high [] some within = absurd (cc)
any-within p low high (r ∷ runs) some within =
    let parts = and_parts (leb low r.first && leb (end_of r) high) (lie_within low high runs) within in
    elim (cases_Bool (p r)) [
      | inl is ↦ (r, is, grind (arith, nat_tests, parts.0), grind (arith, nat_tests, parts.0))
      | inr isnt ↦ any-within p low high runs (rw isnt at some) parts.1
    ]
