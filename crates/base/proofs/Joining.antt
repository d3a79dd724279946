-- Runs that share no page: in another order, and taken in by one another.
use Rattle.std.proofs.Common.{◌≡◌, ℕ, zero, suc, ◌+◌, ◌<◌, ◌≤◌, Bool, true, false, not, List, [], ◌∷◌, length, get_or, ◌⊎◌, inl, inr, refl, sym, ap, arith}
use Rattle.std.specs.List.Sorted.{IsPermutation, IsNonDecreasingBy}
use Rattle.std.proofs.lemmas.Bool.{and_parts, and_from, not-false, cases_lt}
use Rattle.std.proofs.lemmas.Bool.Decides.{nat_tests}
use Rattle.std.proofs.lemmas.List.Sums.{AllPass-from_list_all, list_all-from_AllPass}
use Rattle.std.proofs.lemmas.Map.Keys.{IsDistinct-IsPermutation, IsDistinct-from_apart, apart_from_distinct}
use Rattle.base.specs.Pages.{PageRun, are_apart, are_disjoint, with_run}

-- the page after the run's last
abbrev pub end_of : PageRun → ℕ
end_of run = run.first + run.count

-- ---- in another order

share : PageRun → PageRun → Bool
share a b = not (are_apart a b)

share-comm : (a b : PageRun) → share a b ≡ share b a
unfolding share
share-comm a b = grind (arith, nat_tests)

share_from_apart : (a b : PageRun) → are_apart a b ≡ true → share a b ≡ false
unfolding share
share_from_apart a b e = ap not e

apart_from_share : (a b : PageRun) → share a b ≡ false → are_apart a b ≡ true
unfolding share
apart_from_share a b e = not-false (are_apart a b) e

apart_at : (runs : List PageRun) (i j : ℕ) (d : PageRun) → are_disjoint runs ≡ true → i < j → j < length runs → are_apart (get_or runs i d) (get_or runs j d) ≡ true
apart_at [] i j d e a b = absurd (omega arith)
apart_at (x ∷ xs) i zero d e a b = absurd (omega arith)
apart_at (x ∷ xs) zero (suc j) d e a b = AllPass-from_list_all (are_apart x) xs (and_parts _ _ e).0 j d (omega arith)
apart_at (x ∷ xs) (suc i) (suc j) d e a b = apart_at xs i j d (and_parts _ _ e).1 (omega arith) (omega arith)

disjoint_from : (runs : List PageRun) → ((i j : ℕ) (d : PageRun) → i < j → j < length runs → are_apart (get_or runs i d) (get_or runs j d) ≡ true) → are_disjoint runs ≡ true
disjoint_from [] h = refl
disjoint_from (x ∷ xs) h =
    and_from _ _
    (list_all-from_AllPass (are_apart x) xs (λ j d l. h 0 (suc j) d (omega arith) (omega arith)))
    (disjoint_from xs (λ i j d a b. h (suc i) (suc j) d (omega arith) (omega arith)))

pub are_disjoint-IsPermutation : (xs ys : List PageRun) → IsPermutation xs ys → are_disjoint xs ≡ true → are_disjoint ys ≡ true
are_disjoint-IsPermutation xs ys moved e =
    let distinct = IsDistinct-IsPermutation share share-comm xs ys moved
    (IsDistinct-from_apart share xs (λ i j d a b. share_from_apart _ _ (apart_at xs i j d e a b))) in
    disjoint_from ys (λ i j d a b. apart_from_share _ _ (apart_from_distinct share ys i j d distinct a b))

-- ---- in the order of their first pages

-- each that has a page begins where those before it end, or later
pub record AreSpread (runs : List PageRun) : Type 0 where
  pub behind : (i j : ℕ) (d : PageRun) → i < j → j < length runs → ((get_or runs j d).count ≡ 0) ⊎ (end_of (get_or runs i d) ≤ (get_or runs j d).first)

pub spread : (runs : List PageRun) → are_disjoint runs ≡ true → IsNonDecreasingBy (λ (run : PageRun). run.first) runs → AreSpread runs
spread runs disjoint ascending = record {
  behind = λ i j d lt inside. ends_before (get_or runs i d) (get_or runs j d) (apart_at runs i j d disjoint lt inside) (ascending i j d (omega (arith, lt)) inside);
}
  where
    ends_before : (a b : PageRun) → are_apart a b ≡ true → a.first ≤ b.first → (b.count ≡ 0) ⊎ (end_of a ≤ b.first)
    ends_before a b e le = elim (cases_lt 0 b.count) [
      | inl some ↦ inr (grind (arith, nat_tests))
      | inr none ↦ inl (omega (arith, none))
    ]

pub spread-rest : (run : PageRun) (runs : List PageRun) → AreSpread (run ∷ runs) → AreSpread runs
spread-rest run runs s = record { behind = λ i j d lt inside. s.behind (suc i) (suc j) d (omega (arith, lt)) (omega (arith, inside)) }

-- the second taken in by the first, in which it begins or where it ends
pub spread-with : (run next : PageRun) (runs : List PageRun) → run.first ≤ next.first → AreSpread (run ∷ next ∷ runs) → AreSpread (with_run run next ∷ runs)
spread-with run next runs le s = record { behind = at }
  where
    both : (r : PageRun) → (r.count ≡ 0) ⊎ (end_of run ≤ r.first) → (r.count ≡ 0) ⊎ (end_of next ≤ r.first) → (r.count ≡ 0) ⊎ (end_of (with_run run next) ≤ r.first)
    both r (inl none) second = inl none
    both r (inr first) (inl none) = inl none
    both r (inr first) (inr second) = inr (omega (arith, le, first, second))

    at : (i j : ℕ) (d : PageRun) → i < j → j < length (with_run run next ∷ runs) → ((get_or (with_run run next ∷ runs) j d).count ≡ 0) ⊎ (end_of (get_or (with_run run next ∷ runs) i d) ≤ (get_or (with_run run next ∷ runs) j d).first)
    at i zero d lt inside = absurd (omega (arith, lt))
    at zero (suc j) d lt inside = both (get_or runs j d) (s.behind 0 (suc (suc j)) d (omega arith) (omega (arith, inside))) (s.behind 1 (suc (suc j)) d (omega arith) (omega (arith, inside)))
    at (suc i) (suc j) d lt inside = s.behind (suc (suc i)) (suc (suc j)) d (omega (arith, lt)) (omega (arith, inside))

pub pages_with : (run next : PageRun) (runs : List PageRun) → run.first ≤ next.first → next.first ≤ end_of run → AreSpread (run ∷ next ∷ runs) → (with_run run next).count ≡ run.count + next.count
pages_with run next runs from to s = elim (s.behind 0 1 run (omega arith) (omega arith)) [
  | inl none ↦ omega (arith, from, to, none)
  | inr behind ↦ omega (arith, from, to, behind)
]
