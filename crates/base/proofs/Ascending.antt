-- Live transactions that stand in ascending order of their handles, and one more.
use Rattle.std.proofs.Common.{◌≡◌, ◌≢◌, ℕ, zero, suc, ◌<◌, ◌≤◌, Bool, true, false, cond, ltb, List, [], ◌∷◌, Option, Some, None, length, get_or, filter, find, refl, sym, ap, arith}
use Rattle.std.specs.List.{AllByRecursion, insert}
use Rattle.std.proofs.lemmas.Bool.{ltb-true}
use Rattle.std.proofs.lemmas.Bool.Decides.{nat_tests}
use Rattle.base.specs.Transactions.{Live, AreAscending, with_live}

is_below : (a b : ℕ) → a < b → ltb a b ≡ true
is_below a b lt = grind (arith, nat_tests)

is_not_below : (a b : ℕ) → b < a → ltb a b ≡ false
is_not_below a b lt = grind (arith, nat_tests)

above : (a b : ℕ) → ltb a b ≡ false → b ≢ a → b < a
above a b past other = grind (arith, nat_tests, past, other)

-- ---- what holds of each, and of one more

pub all_with : (P : Live → Type 0) (t : Live) (live : List Live) → AllByRecursion P live → P t → AllByRecursion P (with_live t live)
all_with P t [] all p = (p, tt)
all_with P t (u ∷ us) all p =
    elim (ltb t.handle u.handle) as (λ b. AllByRecursion P (cond b (t ∷ u ∷ us) (u ∷ with_live t us))) [
      | true ↦ (p, all)
      | false ↦ (all.0, all_with P t us all.1 p)
    ]

pub all_above : (t u : Live) (us : List Live) → t.handle < u.handle → AllByRecursion (λ v. u.handle < v.handle) us → AllByRecursion (λ v. t.handle < v.handle) us
all_above t u [] lt all = tt
all_above t u (v ∷ vs) lt all = (let more = all.0 in omega (arith, lt, more), all_above t u vs lt all.1)

pub AreAscending-with : (t : Live) (live : List Live) → AreAscending live → AllByRecursion (λ u. u.handle ≢ t.handle) live → AreAscending (with_live t live)
AreAscending-with t [] a others = (tt, tt)
AreAscending-with t (u ∷ us) a others =
    elim (ltb t.handle u.handle) as (λ b. ltb t.handle u.handle ≡ b → AreAscending (cond b (t ∷ u ∷ us) (u ∷ with_live t us))) [
      | true ↦ λ e. let lt = ltb-true _ _ e in ((lt, all_above t u us lt a.0), a)
      | false ↦ λ e. (all_with (λ v. u.handle < v.handle) t us a.0 (above t.handle u.handle e others.0), AreAscending-with t us a.1 others.1)
    ] refl

-- ---- the first with a property

not_first : {A : Type 0} (b : Bool) (x : A) (o : Option A) → cond b (Some x) o ≡ None → (b ≡ false) × (o ≡ None)
not_first true x o e = absurd cc
not_first false x o e = (refl, e)

pub find-new : (f : Live → Bool) (t : Live) (live : List Live) → f t ≡ true → find f live ≡ None → find f (with_live t live) ≡ Some t
find-new f t [] is none = rw is refl
find-new f t (u ∷ us) is none =
    let no = not_first (f u) u (find f us) none in
    elim (ltb t.handle u.handle) as (λ b. find f (cond b (t ∷ u ∷ us) (u ∷ with_live t us)) ≡ Some t) [
      | true ↦ rw is refl
      | false ↦ rw no.0 (find-new f t us is no.1)
    ]

pub find-other : (f : Live → Bool) (t : Live) (live : List Live) → f t ≡ false → find f (with_live t live) ≡ find f live
find-other f t [] not = rw not refl
find-other f t (u ∷ us) not =
    elim (ltb t.handle u.handle) as (λ b. find f (cond b (t ∷ u ∷ us) (u ∷ with_live t us)) ≡ find f (u ∷ us)) [
      | true ↦ rw not refl
      | false ↦ ap (λ o. cond (f u) (Some u) o) (find-other f t us not)
    ]

-- ---- those with a property

all_filter : (P : Live → Type 0) (f : Live → Bool) (live : List Live) → AllByRecursion P live → AllByRecursion P (filter f live)
all_filter P f [] all = tt
all_filter P f (u ∷ us) all =
    elim (f u) as (λ b. AllByRecursion P (cond b (u ∷ filter f us) (filter f us))) [
      | true ↦ (all.0, all_filter P f us all.1)
      | false ↦ all_filter P f us all.1
    ]

with-first : (t : Live) (live : List Live) → AllByRecursion (λ u. t.handle < u.handle) live → with_live t live ≡ t ∷ live
with-first t [] all = refl
with-first t (u ∷ us) all = rw (is_below t.handle u.handle all.0) refl

pub filter-one : (f : Live → Bool) (t : Live) (live : List Live) → AreAscending live → f t ≡ true → filter f (with_live t live) ≡ with_live t (filter f live)
filter-one f t [] a is = rw is refl
filter-one f t (u ∷ us) a is =
    elim (ltb t.handle u.handle) as (λ b. ltb t.handle u.handle ≡ b → filter f (cond b (t ∷ u ∷ us) (u ∷ with_live t us)) ≡ with_live t (filter f (u ∷ us))) [
      | true ↦ λ e.
          let lt = ltb-true _ _ e in
          rw is (sym (with-first t (filter f (u ∷ us)) (all_filter (λ v. t.handle < v.handle) f (u ∷ us) (lt, all_above t u us lt a.0))))
      | false ↦ λ e. elim (f u) as (λ b. cond b (u ∷ filter f (with_live t us)) (filter f (with_live t us)) ≡ with_live t (cond b (u ∷ filter f us) (filter f us))) [
        | true ↦ rw e (ap (λ l. u ∷ l) (filter-one f t us a.1 is))
        | false ↦ filter-one f t us a.1 is
      ]
    ] refl

pub filter-none : (f : Live → Bool) (t : Live) (live : List Live) → f t ≡ false → filter f (with_live t live) ≡ filter f live
filter-none f t [] not = rw not refl
filter-none f t (u ∷ us) not =
    elim (ltb t.handle u.handle) as (λ b. filter f (cond b (t ∷ u ∷ us) (u ∷ with_live t us)) ≡ filter f (u ∷ us)) [
      | true ↦ rw not refl
      | false ↦ elim (f u) as (λ b. cond b (u ∷ filter f (with_live t us)) (filter f (with_live t us)) ≡ cond b (u ∷ filter f us) (filter f us)) [
        | true ↦ ap (λ l. u ∷ l) (filter-none f t us not)
        | false ↦ filter-none f t us not
      ]
    ]

-- ---- its place

pub with-insert : (t : Live) (live : List Live) (i : ℕ) → i ≤ length live → ((k : ℕ) (d : Live) → k < i → (get_or live k d).handle < t.handle) → ((k : ℕ) (d : Live) → i ≤ k → k < length live → t.handle ≤ (get_or live k d).handle) → AllByRecursion (λ u. u.handle ≢ t.handle) live
    → insert live i t ≡ with_live t live
with-insert t [] zero le lower others new = refl
with-insert t [] (suc i) le lower others new = absurd (omega arith)
with-insert t (u ∷ us) zero le lower others new =
    let at : t.handle ≤ u.handle = others 0 u (omega arith) (omega arith) in
    let other = new.0 in
    let lt : t.handle < u.handle = grind (arith, at, other) in
    rw (is_below t.handle u.handle lt) refl
with-insert t (u ∷ us) (suc i) le lower others new =
    rw (is_not_below t.handle u.handle (lower 0 u (omega arith)))
    (ap (λ l. u ∷ l) (with-insert t us i (omega arith) (λ k d lt. lower (suc k) d (omega arith)) (λ k d from lt. others (suc k) d (omega arith) (omega arith)) new.1))
