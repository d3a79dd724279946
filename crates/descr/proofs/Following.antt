-- Runs in ascending order share no page exactly where each begins where the one before it ends, or later.
use Rattle.std.proofs.Common.{◌≡◌, ℕ, zero, suc, ◌+◌, ◌<◌, ◌≤◌, Bool, true, false, ◌&&◌, ◌||◌, leb, List, [], ◌∷◌, length, get_or, refl, sym, ap, ◌∙◌, arith}
use Rattle.std.specs.List.{list_all, refill}
use Rattle.std.specs.List.Sorted.{IsPermutation, IsNonDecreasingBy}
use Rattle.std.proofs.lemmas.Bool.{and_parts, and_from, leb-true, not-false}
use Rattle.std.proofs.lemmas.Bool.Decides.{nat_tests}
use Rattle.std.proofs.lemmas.List.Sorted.{IsPermutation-sym, All-permutation}
use Rattle.base.specs.Pages.{PageRun, are_apart, are_disjoint}
use Rattle.base.proofs.Joining.{are_disjoint-IsPermutation}
use Rattle.descr.specs.Order.{fall, follow, AreAllSome}

-- each run of the list begins at this page or later
far : (end e : ℕ) (runs : List PageRun) → end ≤ e → follow e runs ≡ true → follow end runs ≡ true
far end e [] le h = refl
far end e (run ∷ runs) le h =
    let parts = and_parts (leb e run.first) (follow (run.first + run.count) runs) h in
    and_from _ _ (let l : e ≤ run.first = leb-true _ _ parts.0 in grind (arith, nat_tests)) parts.1

apart_from_all : (run : PageRun) (runs : List PageRun) → follow (run.first + run.count) runs ≡ true → list_all (are_apart run) runs ≡ true
apart_from_all run [] h = refl
apart_from_all run (next ∷ runs) h =
    let parts = and_parts (leb (run.first + run.count) next.first) (follow (next.first + next.count) runs) h in
    let here : run.first + run.count ≤ next.first = leb-true _ _ parts.0 in
    and_from _ _ (grind (arith, nat_tests)) (apart_from_all run runs (far (run.first + run.count) (next.first + next.count) runs (omega arith) parts.1))

pub disjoint-from_follow : (end : ℕ) (runs : List PageRun) → follow end runs ≡ true → are_disjoint runs ≡ true
disjoint-from_follow end [] h = refl
disjoint-from_follow end (run ∷ runs) h =
    let parts = and_parts (leb end run.first) (follow (run.first + run.count) runs) h in
    and_from _ _ (apart_from_all run runs parts.1) (disjoint-from_follow (run.first + run.count) runs parts.1)

-- ---- in descending order

below : (start s : ℕ) (runs : List PageRun) → s ≤ start → fall s runs ≡ true → fall start runs ≡ true
below start s [] le h = refl
below start s (run ∷ runs) le h =
    let parts = and_parts (leb (run.first + run.count) s) (fall run.first runs) h in
    and_from _ _ (let l : run.first + run.count ≤ s = leb-true _ _ parts.0 in grind (arith, nat_tests)) parts.1

apart_from_lower : (run : PageRun) (runs : List PageRun) → fall run.first runs ≡ true → list_all (are_apart run) runs ≡ true
apart_from_lower run [] h = refl
apart_from_lower run (next ∷ runs) h =
    let parts = and_parts (leb (next.first + next.count) run.first) (fall next.first runs) h in
    let here : next.first + next.count ≤ run.first = leb-true _ _ parts.0 in
    and_from _ _ (grind (arith, nat_tests)) (apart_from_lower run runs (below run.first next.first runs (omega arith) parts.1))

pub disjoint-from_fall : (start : ℕ) (runs : List PageRun) → fall start runs ≡ true → are_disjoint runs ≡ true
disjoint-from_fall start [] h = refl
disjoint-from_fall start (run ∷ runs) h =
    let parts = and_parts (leb (run.first + run.count) start) (fall run.first runs) h in
    and_from _ _ (apart_from_lower run runs parts.1) (disjoint-from_fall run.first runs parts.1)

-- ---- a sorted copy

-- each is at or above the first of the list, in ascending order
rest_ascends : (run : PageRun) (runs : List PageRun) → IsNonDecreasingBy (λ r. r.first) (run ∷ runs) → IsNonDecreasingBy (λ r. r.first) runs
rest_ascends run runs h = λ i j d a b. h (suc i) (suc j) d (omega arith) (omega arith)

-- the next run, of an ascending list without a shared page
next_follows : (run next : PageRun) → are_apart run next ≡ true → run.first ≤ next.first → 0 < next.count → run.first + run.count ≤ next.first
next_follows run next e le some = grind (arith, nat_tests)

pub follow-from_disjoint : (end : ℕ) (runs : List PageRun) → AreAllSome runs → IsNonDecreasingBy (λ r. r.first) runs → are_disjoint runs ≡ true → ((run : PageRun) (rest : List PageRun) → runs ≡ run ∷ rest → end ≤ run.first) → follow end runs ≡ true
follow-from_disjoint end [] some ascending h first = refl
follow-from_disjoint end (run ∷ []) some ascending h first = and_from _ _ (let l : end ≤ run.first = first run [] refl in grind (arith, nat_tests)) refl
follow-from_disjoint end (run ∷ next ∷ runs) some ascending h first =
    let parts = and_parts (list_all (are_apart run) (next ∷ runs)) (are_disjoint (next ∷ runs)) h in
    let apart = and_parts (are_apart run next) (list_all (are_apart run) runs) parts.0 in
    let up : run.first ≤ next.first = ascending 0 1 run (omega arith) (omega arith) in
    let ends : run.first + run.count ≤ next.first = next_follows run next apart.0 up (some 1 run (omega arith)) in
    and_from _ _
    (let l : end ≤ run.first = first run (next ∷ runs) refl in grind (arith, nat_tests))
    (follow-from_disjoint (run.first + run.count) (next ∷ runs) (λ k d lt. some (suc k) d (omega arith)) (rest_ascends run (next ∷ runs) ascending) parts.1 (λ r rest is. let e : next ≡ r = cc in let f : next.first ≡ r.first = ap (λ (x : PageRun). x.first) e in omega (arith, f, ends)))

same_bool : (a b : Bool) → (a ≡ true → b ≡ true) → (b ≡ true → a ≡ true) → a ≡ b
same_bool true b f g = sym (f refl)
same_bool false true f g = g refl
same_bool false false f g = refl

-- the same of a sorted copy
pub follow-sorted : (runs sorted : List PageRun) → AreAllSome runs → IsPermutation runs sorted → IsNonDecreasingBy (λ r. r.first) sorted → follow 0 sorted ≡ are_disjoint runs
follow-sorted runs sorted some moved ascending =
    same_bool (follow 0 sorted) (are_disjoint runs)
    (λ h. are_disjoint-IsPermutation sorted runs (IsPermutation-sym runs sorted moved) (disjoint-from_follow 0 sorted h))
    (λ h. follow-from_disjoint 0 sorted (All-permutation (λ (r : PageRun). 0 < r.count) runs sorted moved some) ascending (are_disjoint-IsPermutation runs sorted moved h) (λ run rest is. omega arith))

-- a list that another of its length takes the place of
pub refilled : {X : Type 0} (xs ws : List X) → length ws ≡ length xs → ws ≡ refill (length xs) xs ws
refilled [] [] e = refl
refilled [] (w ∷ ws) e = absurd (omega arith)
refilled (x ∷ xs) [] e = absurd (omega arith)
refilled (x ∷ xs) (w ∷ ws) e = ap (λ l. w ∷ l) (refilled xs ws (omega arith))
