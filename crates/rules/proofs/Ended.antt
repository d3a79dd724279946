-- A live transaction ends: the others stay, and none covers its pages any more.
use Rattle.std.proofs.Common.{◌≡◌, ℕ, ◌<◌, Bool, true, false, ◌&&◌, cond, eqb, List, [], ◌∷◌, Option, Some, None, is_some, refl, ap, ◌∙◌, find, arith}
use Rattle.std.specs.List.{AllByRecursion}
use Rattle.std.specs.Option.{option_and_then}
use Rattle.std.proofs.lemmas.Bool.{eqb-true}
use Rattle.base.specs.Pages.{covers}
use Rattle.base.specs.Transactions.{Live, AreAscending, without}
use Rattle.base.specs.Ledger.{live_at}
use Rattle.base.proofs.Booleans.{both}
use Rattle.rules.specs.Laws.OneOwner.{AreApart, AreAllApart}

pub some_is : (t u : Live) → Some t ≡ Some u → t ≡ u
some_is t u e = cc

-- ---- one of them is found

pub found_in : (P : Live → Type 0) (f : Live → Bool) (ts : List Live) (t : Live) → find f ts ≡ Some t → AllByRecursion P ts → P t
found_in P f [] t e h = absurd cc
found_in P f (u ∷ us) t e h =
    elim (f u) as (λ b. cond b (Some u) (find f us) ≡ Some t → P t) [
      | true ↦ λ k. let is = some_is u t k in rw (← is) h.0
      | false ↦ λ k. found_in P f us t k h.1
    ] e

pub found_is : (f : Live → Bool) (ts : List Live) (t : Live) → find f ts ≡ Some t → f t ≡ true
found_is f [] t e = absurd cc
found_is f (u ∷ us) t e =
    elim (f u) as (λ b. f u ≡ b → cond b (Some u) (find f us) ≡ Some t → f t ≡ true) [
      | true ↦ λ is k. rw (← some_is u t k) is
      | false ↦ λ is k. found_is f us t k
    ] refl e

-- handles differ, so it is the first of its handle
pub found_first : (ts : List Live) (h : ℕ) (g : Live → Bool) (t : Live) → AreAscending ts → find (λ u. eqb u.handle h && g u) ts ≡ Some t → find (λ u. eqb u.handle h) ts ≡ Some t
found_first [] h g t others e = absurd cc
found_first (u ∷ us) h g t others e =
    elim (eqb u.handle h) as (λ b. eqb u.handle h ≡ b → cond (b && g u) (Some u) (find (λ v. eqb v.handle h && g v) us) ≡ Some t → cond b (Some u) (find (λ v. eqb v.handle h) us) ≡ Some t) [
      | true ↦ λ is k. elim (g u) as (λ b. cond b (Some u) (find (λ v. eqb v.handle h && g v) us) ≡ Some t → Some u ≡ Some t) [
        | true ↦ λ m. m
        | false ↦ λ m.
            let same : t.handle ≡ h = eqb-true _ _ (both (eqb t.handle h) (g t) (found_is (λ v. eqb v.handle h && g v) us t m)).0 in
            let lower = found_in (λ v. u.handle < v.handle) (λ v. eqb v.handle h && g v) us t m others.0 in
            let here = eqb-true _ _ is in
            absurd (omega (arith, lower, here, same))
      ] k
      | false ↦ λ is k. found_first us h g t others.1 k
    ] refl e

none_other : (ts : List Live) (h : ℕ) (g : Live → Bool) (u : Live) → AllByRecursion (λ v. u.handle < v.handle) ts → u.handle ≡ h → find (λ v. eqb v.handle h && g v) ts ≡ None
none_other [] h g u others is = refl
none_other (v ∷ vs) h g u others is =
    elim (eqb v.handle h) as (λ b. eqb v.handle h ≡ b → cond (b && g v) (Some v) (find (λ w. eqb w.handle h && g w) vs) ≡ None) [
      | true ↦ λ e. let lower = others.0 in let same = eqb-true _ _ e in absurd (omega (arith, lower, is, same))
      | false ↦ λ e. none_other vs h g u others.1 is
    ] refl

-- so the one with the handle decides
pub found_of : (ts : List Live) (h : ℕ) (g : Live → Bool) → AreAscending ts → find (λ u. eqb u.handle h && g u) ts ≡ option_and_then (λ u. cond (g u) (Some u) None) (find (λ u. eqb u.handle h) ts)
found_of [] h g others = refl
found_of (u ∷ us) h g others =
    elim (eqb u.handle h) as (λ b. eqb u.handle h ≡ b → cond (b && g u) (Some u) (find (λ v. eqb v.handle h && g v) us) ≡ option_and_then (λ v. cond (g v) (Some v) None) (cond b (Some u) (find (λ v. eqb v.handle h) us))) [
      | true ↦ λ e. elim (g u) as (λ b. cond b (Some u) (find (λ v. eqb v.handle h && g v) us) ≡ cond b (Some u) None) [
        | true ↦ refl
        | false ↦ none_other us h g u others.0 (eqb-true _ _ e)
      ]
      | false ↦ λ e. found_of us h g others.1
    ] refl

-- ---- the others stay

pub all_without : (P : Live → Type 0) (h : ℕ) (ts : List Live) → AllByRecursion P ts → AllByRecursion P (without h ts)
all_without P h [] a = tt
all_without P h (t ∷ ts) a =
    elim (eqb t.handle h) as (λ b. AllByRecursion P (cond b ts (t ∷ without h ts))) [
      | true ↦ a.1
      | false ↦ (a.0, all_without P h ts a.1)
    ]

pub apart_without : (h : ℕ) (ts : List Live) → AreAllApart ts → AreAllApart (without h ts)
apart_without h [] a = tt
apart_without h (t ∷ ts) a =
    elim (eqb t.handle h) as (λ b. AreAllApart (cond b ts (t ∷ without h ts))) [
      | true ↦ a.1
      | false ↦ (all_without (AreApart t) h ts a.0, apart_without h ts a.1)
    ]

pub handles_without : (h : ℕ) (ts : List Live) → AreAscending ts → AreAscending (without h ts)
handles_without h [] a = tt
handles_without h (t ∷ ts) a =
    elim (eqb t.handle h) as (λ b. AreAscending (cond b ts (t ∷ without h ts))) [
      | true ↦ a.1
      | false ↦ (all_without (λ u. t.handle < u.handle) h ts a.0, handles_without h ts a.1)
    ]

-- ---- which of them covers a page

none_covers : (t : Live) (ts : List Live) (n : ℕ) → AllByRecursion (AreApart t) ts → covers t.ranges n ≡ true → live_at ts n ≡ None
none_covers t [] n a c = refl
none_covers t (u ∷ us) n a c = let no = a.0 n c in rw no (none_covers t us n a.1 c)

-- what holds of each in two ways
pub both_all : (P Q R : Live → Type 0) → ((t : Live) → P t → Q t → R t) → (ts : List Live) → AllByRecursion P ts → AllByRecursion Q ts → AllByRecursion R ts
both_all P Q R f [] p q = tt
both_all P Q R f (t ∷ ts) p q = (f t p.0 q.0, both_all P Q R f ts p.1 q.1)

-- one that is apart from it covers none of its pages
pub not_covered : (u t : Live) (n : ℕ) → AreApart u t → covers t.ranges n ≡ true → covers u.ranges n ≡ false
not_covered u t n apart c =
    elim (covers u.ranges n) as (λ b. covers u.ranges n ≡ b → b ≡ false) [
      | true ↦ λ e. absurd (let no = apart n e in cc)
      | false ↦ λ e. refl
    ] refl

-- two are apart from each other
pub turned : (t : Live) (us : List Live) → AllByRecursion (AreApart t) us → AllByRecursion (λ u. AreApart u t) us
turned t [] a = tt
turned t (u ∷ us) a = (λ n c. not_covered t u n a.0 c, turned t us a.1)

pub covered_live : (h : ℕ) (ts : List Live) (t : Live) (n : ℕ) → AreAllApart ts → find (λ u. eqb u.handle h) ts ≡ Some t → covers t.ranges n ≡ true → live_at ts n ≡ Some t
covered_live h [] t n a e c = absurd cc
covered_live h (u ∷ us) t n a e c =
    elim (eqb u.handle h) as (λ b. cond b (Some u) (find (λ v. eqb v.handle h) us) ≡ Some t → cond (covers u.ranges n) (Some u) (live_at us n) ≡ Some t) [
      | true ↦ λ k. let is = some_is u t k in let here : covers u.ranges n ≡ true = ap (λ (v : Live). covers v.ranges n) is ∙ c in rw here k
      | false ↦ λ k. let no = not_covered u t n (found_in (AreApart u) (λ v. eqb v.handle h) us t k a.0) c in rw no (covered_live h us t n a.1 k c)
    ] e

pub covered_ended : (h : ℕ) (ts : List Live) (t : Live) (n : ℕ) → AreAllApart ts → find (λ u. eqb u.handle h) ts ≡ Some t → covers t.ranges n ≡ true → live_at (without h ts) n ≡ None
covered_ended h [] t n a e c = absurd cc
covered_ended h (u ∷ us) t n a e c =
    elim (eqb u.handle h) as (λ b. cond b (Some u) (find (λ v. eqb v.handle h) us) ≡ Some t → live_at (cond b us (u ∷ without h us)) n ≡ None) [
      | true ↦ λ k. none_covers u us n a.0 (ap (λ (v : Live). covers v.ranges n) (some_is u t k) ∙ c)
      | false ↦ λ k. let no = not_covered u t n (found_in (AreApart u) (λ v. eqb v.handle h) us t k a.0) c in rw no (covered_ended h us t n a.1 k c)
    ] e

pub other_ended : (h : ℕ) (ts : List Live) (t : Live) (n : ℕ) → find (λ u. eqb u.handle h) ts ≡ Some t → covers t.ranges n ≡ false → live_at (without h ts) n ≡ live_at ts n
other_ended h [] t n e c = absurd cc
other_ended h (u ∷ us) t n e c =
    elim (eqb u.handle h) as (λ b. cond b (Some u) (find (λ v. eqb v.handle h) us) ≡ Some t → live_at (cond b us (u ∷ without h us)) n ≡ cond (covers u.ranges n) (Some u) (live_at us n)) [
      | true ↦ λ k. let no : covers u.ranges n ≡ false = ap (λ (v : Live). covers v.ranges n) (some_is u t k) ∙ c in rw no refl
      | false ↦ λ k. ap (λ (o : Option Live). cond (covers u.ranges n) (Some u) o) (other_ended h us t n k c)
    ] e

-- where none covers a page, none does afterwards
pub none_ended : (h : ℕ) (ts : List Live) (n : ℕ) → is_some (live_at ts n) ≡ false → is_some (live_at (without h ts) n) ≡ false
none_ended h [] n e = refl
none_ended h (u ∷ us) n e =
    elim (covers u.ranges n) as (λ b. covers u.ranges n ≡ b → is_some (cond b (Some u) (live_at us n)) ≡ false → is_some (live_at (cond (eqb u.handle h) us (u ∷ without h us)) n) ≡ false) [
      | true ↦ λ is k. absurd cc
      | false ↦ λ is k. elim (eqb u.handle h) as (λ b. is_some (live_at (cond b us (u ∷ without h us)) n) ≡ false) [
        | true ↦ k
        | false ↦ rw is (none_ended h us n k)
      ]
    ] refl e
