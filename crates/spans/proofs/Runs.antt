-- Runs that stand upward.
use Rattle.std.proofs.Common.{◌≡◌, ℕ, zero, suc, ◌<◌, ◌≤◌, Bool, true, false, ◌||◌, leb, ltb, List, [], ◌∷◌, length, get_or, take, drop, ◌++◌, ◌+◌, ◌⊎◌, inl, inr, refl, sym, ap, ◌∙◌, arith}
use Rattle.std.specs.List.Sorted.{IsNonDecreasingBy}
use Rattle.std.proofs.lemmas.List.{take-append-drop, take_more, drop-append-le, length-take, get_or-take}
use Rattle.std.proofs.lemmas.List.Folds.{list_any-append}
use Rattle.std.proofs.Math.Seq.{drop-cons}
use Rattle.std.proofs.lemmas.Bool.{and_parts, leb-true, ltb-true}
use Rattle.std.proofs.lemmas.Bool.Decides.{nat_tests}
use Rattle.base.specs.Pages.{PageRun, in_run, covers, rise}
use Rattle.spans.specs.Spans.{end_of}

-- ---- runs that rise

pub first_at_least : (e j : ℕ) (runs : List PageRun) (d : PageRun) → rise e runs ≡ true → j < length runs → e ≤ (get_or runs j d).first
first_at_least e j [] d h lt = absurd (omega arith)
first_at_least e zero (run ∷ runs) d h lt = leb-true _ _ (and_parts (leb e run.first) (rise (end_of run) runs) h).0
first_at_least e (suc j) (run ∷ runs) d h lt =
    let parts = and_parts (leb e run.first) (rise (end_of run) runs) h in
    let a = leb-true _ _ parts.0 in
    let b = first_at_least (end_of run) j runs d parts.1 (omega arith) in
    omega arith

pub firsts_ascend : (e : ℕ) (runs : List PageRun) → rise e runs ≡ true → IsNonDecreasingBy (λ run. run.first) runs
firsts_ascend e [] h i j d le lt = absurd (omega arith)
firsts_ascend e (run ∷ runs) h zero zero d le lt = omega arith
firsts_ascend e (run ∷ runs) h zero (suc j) d le lt =
    let b = first_at_least (end_of run) j runs d (and_parts (leb e run.first) (rise (end_of run) runs) h).1 (omega arith) in
    omega arith
firsts_ascend e (run ∷ runs) h (suc i) zero d le lt = absurd (omega arith)
firsts_ascend e (run ∷ runs) h (suc i) (suc j) d le lt = firsts_ascend (end_of run) runs (and_parts (leb e run.first) (rise (end_of run) runs) h).1 i j d (omega arith) (omega arith)

-- ---- parts of runs that rise

pub rise_far : (a b : ℕ) (runs : List PageRun) → a ≤ b → rise b runs ≡ true → rise a runs ≡ true
rise_far a b [] le h = refl
rise_far a b (run ∷ runs) le h =
    let parts = and_parts (leb b run.first) (rise (end_of run) runs) h in
    let from = leb-true _ _ parts.0 in
    let here : leb a run.first ≡ true = grind (arith, nat_tests) in
    rw here parts.1

pub rise_taken : (e i : ℕ) (runs : List PageRun) → rise e runs ≡ true → rise e (take i runs) ≡ true
rise_taken e zero runs h = refl
rise_taken e (suc i) [] h = refl
rise_taken e (suc i) (run ∷ runs) h =
    let parts = and_parts (leb e run.first) (rise (end_of run) runs) h in
    rw parts.0 (rise_taken (end_of run) i runs parts.1)

pub rise_dropped : (e i : ℕ) (runs : List PageRun) → rise e runs ≡ true → rise 0 (drop i runs) ≡ true
rise_dropped e zero runs h = rise_far 0 e runs (omega arith) h
rise_dropped e (suc i) [] h = refl
rise_dropped e (suc i) (run ∷ runs) h = rise_dropped (end_of run) i runs (and_parts (leb e run.first) (rise (end_of run) runs) h).1

pub rise_low : (low : ℕ) (runs : List PageRun) → ((d : PageRun) → 0 < length runs → low ≤ (get_or runs 0 d).first) → rise 0 runs ≡ true → rise low runs ≡ true
rise_low low [] le h = refl
rise_low low (run ∷ runs) le h =
    let from = le run (omega arith) in
    let here : leb low run.first ≡ true = grind (arith, nat_tests) in
    rw here (and_parts (leb 0 run.first) (rise (end_of run) runs) h).1

pub in_it : (run : PageRun) (n : ℕ) → in_run run n ≡ true → (run.first ≤ n) × (n < end_of run)
in_it run n h =
    let parts = and_parts (leb run.first n) (ltb n (end_of run)) h in
    (leb-true _ _ parts.0, ltb-true _ _ parts.1)

either_way : (a b : Bool) → (a || b) ≡ true → (a ≡ true) ⊎ (b ≡ true)
either_way true b h = inl refl
either_way false b h = inr h

last_begins : (e : ℕ) (runs : List PageRun) (last : PageRun) → rise e (runs ++ last ∷ []) ≡ true → e ≤ last.first
last_begins e [] last h = leb-true _ _ (and_parts (leb e last.first) true h).0
last_begins e (run ∷ runs) last h =
    let parts = and_parts (leb e run.first) (rise (end_of run) (runs ++ last ∷ [])) h in
    let from = leb-true _ _ parts.0 in
    let rest = last_begins (end_of run) runs last parts.1 in
    omega arith

pub covers_within : (e : ℕ) (runs : List PageRun) (last : PageRun) (n : ℕ) → rise e (runs ++ last ∷ []) ≡ true → covers (runs ++ last ∷ []) n ≡ true → (e ≤ n) × (n < end_of last)
covers_within e [] last n h is =
    let from = leb-true _ _ (and_parts (leb e last.first) true h).0 in
    elim (either_way (in_run last n) false is) [ inl here ↦ (let i = in_it last n here in (omega (arith, i.0), i.1)) | inr none ↦ absurd cc ]
covers_within e (run ∷ runs) last n h is =
    let parts = and_parts (leb e run.first) (rise (end_of run) (runs ++ last ∷ [])) h in
    let from = leb-true _ _ parts.0 in
    let end = last_begins (end_of run) runs last parts.1 in
    elim (either_way (in_run run n) (covers (runs ++ last ∷ []) n) is) [
      | inl here ↦ (let i = in_it run n here in (omega (arith, i.0), omega (arith, i.1)))
      | inr rest ↦ (let r = covers_within (end_of run) runs last n parts.1 rest in (omega (arith, r.0), r.1))
    ]

pub covers_from : (e : ℕ) (runs : List PageRun) (n : ℕ) → rise e runs ≡ true → covers runs n ≡ true → e ≤ n
covers_from e [] n h is = absurd cc
covers_from e (run ∷ runs) n h is =
    let parts = and_parts (leb e run.first) (rise (end_of run) runs) h in
    let from = leb-true _ _ parts.0 in
    elim (either_way (in_run run n) (covers runs n) is) [
      | inl here ↦ (let i = in_it run n here in omega (arith, i.0))
      | inr rest ↦ (let r = covers_from (end_of run) runs n parts.1 rest in omega arith)
    ]

pub firsts_taken : (i : ℕ) (runs : List PageRun) → IsNonDecreasingBy (λ run. run.first) runs → IsNonDecreasingBy (λ run. run.first) (take i runs)
firsts_taken i runs h j k d le lt =
    let l = length-take i runs in
    let a = get_or-take i runs j d (omega arith) in
    let b = get_or-take i runs k d (omega arith) in
    let up = h j k d le (omega arith) in
    let x = ap (λ (r : PageRun). r.first) a in
    let y = ap (λ (r : PageRun). r.first) b in
    omega arith

-- those of a group, and those behind it
pub rest_covers : (runs : List PageRun) (from left n : ℕ) → from ≤ left → left ≤ length runs → covers (drop from runs) n ≡ (covers (drop from (take left runs)) n || covers (drop left runs) n)
rest_covers runs from left n lt le =
    let l = length-take left runs in
    ap (λ (m : List PageRun). covers m n) (ap (drop from) (sym (take-append-drop left runs)) ∙ drop-append-le from (take left runs) (drop left runs) (omega arith))
    ∙ list_any-append (λ (run : PageRun). in_run run n) (drop from (take left runs)) (drop left runs)

covers_one_more : (runs : List PageRun) (run : PageRun) (n : ℕ) → covers (runs ++ run ∷ []) n ≡ (covers runs n || in_run run n)
covers_one_more runs run n = list_any-append (λ (r : PageRun). in_run r n) runs (run ∷ []) ∙ ap (λ b. covers runs n || b) (plain (in_run run n))
  where
    plain : (b : Bool) → (b || false) ≡ b
    plain true = refl
    plain false = refl

-- ---- run after run

pub covers_next : (next : ℕ) (runs : List PageRun) → next < length runs → (d : PageRun) (n : ℕ) → (covers (take next runs) n || in_run (get_or runs next d) n) ≡ covers (take (next + 1) runs) n
covers_next next runs lt d n = sym (ap (λ (l : List PageRun). covers l n) (take_more runs next d lt) ∙ covers_one_more (take next runs) (get_or runs next d) n)

pub rise_at : (e i : ℕ) (runs : List PageRun) (d : PageRun) → rise e runs ≡ true → i < length runs → rise (end_of (get_or runs i d)) (drop (suc i) runs) ≡ true
rise_at e i [] d h lt = absurd (omega arith)
rise_at e zero (run ∷ runs) d h lt = (and_parts (leb e run.first) (rise (end_of run) runs) h).1
rise_at e (suc i) (run ∷ runs) d h lt = rise_at (end_of run) i runs d (and_parts (leb e run.first) (rise (end_of run) runs) h).1 (omega arith)

pub rise_first : (e i : ℕ) (runs : List PageRun) (d : PageRun) → i < length runs → rise e (drop i runs) ≡ true → e ≤ (get_or runs i d).first
rise_first e i runs d lt h = leb-true _ _ (and_parts (leb e (get_or runs i d).first) (rise (end_of (get_or runs i d)) (drop (suc i) runs)) (ap (rise e) (sym (drop-cons runs i d lt)) ∙ h)).0
