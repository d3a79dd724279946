-- What a receiver has retrieved of a live transaction changes: all else of the transactions stays.
use Rattle.std.proofs.Common.{◌≡◌, ℕ, ◌<◌, Bool, true, false, ◌||◌, cond, eqb, List, [], ◌∷◌, Option, Some, is_some, refl, sym, ap, ◌∙◌, find}
use Rattle.std.specs.List.{AllByRecursion, list_any}
use Rattle.std.specs.Option.{option_and_then}
use Rattle.std.proofs.lemmas.Bool.{eqb-true, eq-eqb}
use Rattle.base.specs.Access.{View}
use Rattle.base.specs.Ledger.{live_at, retrieved}
use Rattle.base.specs.Pages.{covers}
use Rattle.base.specs.Transactions.{Receiver, Live, AreAscending, with_retrieved, with_retrieval, with_retrieval_of}
use Rattle.rules.specs.Laws.OneOwner.{AreApart, AreAllApart}
use Rattle.rules.proofs.Ended.{found_in, not_covered, some_is}
use Rattle.rules.proofs.FreePages.{eqb_sym}

-- ---- what each receiver has retrieved

rest : (a b : Bool) → a ≡ false → (a || b) ≡ true → b ≡ true
rest true b away e = absurd cc
rest false b away e = e

pub retrieved_set : (rs : List Receiver) (p q : ℕ) (view : View) → list_any (λ r. eqb r.partition p) rs ≡ true → retrieved (with_retrieved p view rs) q ≡ cond (eqb q p) view (retrieved rs q)
retrieved_set [] p q view e = absurd cc
retrieved_set (r ∷ rs) p q view e =
    elim (eqb r.partition p) as (λ b. eqb r.partition p ≡ b → retrieved (cond b (record r { retrieved = view } ∷ rs) (r ∷ with_retrieved p view rs)) q ≡ cond (eqb q p) view (retrieved (r ∷ rs) q)) [
      | true ↦ λ here. elim (eqb r.partition q) as (λ b. eqb r.partition q ≡ b → option_and_then (λ (x : Receiver). x.retrieved) (cond b (Some (record r { retrieved = view })) (find (λ (x : Receiver). eqb x.partition q) rs)) ≡ cond (eqb q p) view (option_and_then (λ (x : Receiver). x.retrieved) (cond b (Some r) (find (λ (x : Receiver). eqb x.partition q) rs)))) [
        | true ↦ λ same. let one : eqb q p ≡ true = eq-eqb q p (sym (eqb-true _ _ same) ∙ eqb-true _ _ here) in rw one refl
        | false ↦ λ other. let apart : eqb q p ≡ false = eqb_sym q p ∙ ap (λ (x : ℕ). eqb x q) (sym (eqb-true _ _ here)) ∙ other in rw apart refl
      ] refl
      | false ↦ λ away. elim (eqb r.partition q) as (λ b. eqb r.partition q ≡ b → option_and_then (λ (x : Receiver). x.retrieved) (cond b (Some r) (find (λ (x : Receiver). eqb x.partition q) (with_retrieved p view rs))) ≡ cond (eqb q p) view (option_and_then (λ (x : Receiver). x.retrieved) (cond b (Some r) (find (λ (x : Receiver). eqb x.partition q) rs)))) [
        | true ↦ λ same. let apart : eqb q p ≡ false = ap (λ (x : ℕ). eqb x p) (sym (eqb-true _ _ same)) ∙ away in rw apart refl
        | false ↦ λ other. retrieved_set rs p q view (rest (eqb r.partition p) (list_any (λ (x : Receiver). eqb x.partition p) rs) away e)
      ] refl
    ] refl

pub receivers_set : (rs : List Receiver) (p q : ℕ) (view : View) → list_any (λ r. eqb r.partition q) (with_retrieved p view rs) ≡ list_any (λ r. eqb r.partition q) rs
receivers_set [] p q view = refl
receivers_set (r ∷ rs) p q view =
    elim (eqb r.partition p) as (λ b. list_any (λ (x : Receiver). eqb x.partition q) (cond b (record r { retrieved = view } ∷ rs) (r ∷ with_retrieved p view rs)) ≡ list_any (λ (x : Receiver). eqb x.partition q) (r ∷ rs)) [
      | true ↦ refl
      | false ↦ ap (λ (b : Bool). eqb r.partition q || b) (receivers_set rs p q view)
    ]

-- ---- the transactions

pub all_set : (P : Live → Type 0) (h p : ℕ) (view : View) (ts : List Live) → AllByRecursion P ts → ((t : Live) → find (λ u. eqb u.handle h) ts ≡ Some t → P t → P (with_retrieval p view t)) → AllByRecursion P (with_retrieval_of h p view ts)
all_set P h p view [] a f = tt
all_set P h p view (t ∷ ts) a f =
    elim (eqb t.handle h) as (λ b. ((u : Live) → cond b (Some t) (find (λ v. eqb v.handle h) ts) ≡ Some u → P u → P (with_retrieval p view u)) → AllByRecursion P (cond b (with_retrieval p view t ∷ ts) (t ∷ with_retrieval_of h p view ts))) [
      | true ↦ λ g. (g t refl a.0, a.1)
      | false ↦ λ g. (a.0, all_set P h p view ts a.1 g)
    ] f

pub apart_set : (h p : ℕ) (view : View) (ts : List Live) → AreAllApart ts → AreAllApart (with_retrieval_of h p view ts)
apart_set h p view [] a = tt
apart_set h p view (t ∷ ts) a =
    elim (eqb t.handle h) as (λ b. AreAllApart (cond b (with_retrieval p view t ∷ ts) (t ∷ with_retrieval_of h p view ts))) [
      | true ↦ (a.0, a.1)
      | false ↦ (all_set (AreApart t) h p view ts a.0 (λ u e x. x), apart_set h p view ts a.1)
    ]

pub handles_set : (h p : ℕ) (view : View) (ts : List Live) → AreAscending ts → AreAscending (with_retrieval_of h p view ts)
handles_set h p view [] a = tt
handles_set h p view (t ∷ ts) a =
    elim (eqb t.handle h) as (λ b. AreAscending (cond b (with_retrieval p view t ∷ ts) (t ∷ with_retrieval_of h p view ts))) [
      | true ↦ (a.0, a.1)
      | false ↦ (all_set (λ u. t.handle < u.handle) h p view ts a.0 (λ u e x. x), handles_set h p view ts a.1)
    ]

-- ---- which of them covers a page

pub covered_set : (h p : ℕ) (view : View) (ts : List Live) (t : Live) (n : ℕ) → AreAllApart ts → find (λ u. eqb u.handle h) ts ≡ Some t → covers t.ranges n ≡ true → live_at (with_retrieval_of h p view ts) n ≡ Some (with_retrieval p view t)
covered_set h p view [] t n a e c = absurd cc
covered_set h p view (u ∷ us) t n a e c =
    elim (eqb u.handle h) as (λ b. cond b (Some u) (find (λ v. eqb v.handle h) us) ≡ Some t → live_at (cond b (with_retrieval p view u ∷ us) (u ∷ with_retrieval_of h p view us)) n ≡ Some (with_retrieval p view t)) [
      | true ↦ λ k. let is = some_is u t k in let here : covers u.ranges n ≡ true = ap (λ (v : Live). covers v.ranges n) is ∙ c in rw here (ap (λ (v : Live). Some (with_retrieval p view v)) is)
      | false ↦ λ k. let no = not_covered u t n (found_in (AreApart u) (λ v. eqb v.handle h) us t k a.0) c in rw no (covered_set h p view us t n a.1 k c)
    ] e

pub other_set : (h p : ℕ) (view : View) (ts : List Live) (t : Live) (n : ℕ) → find (λ u. eqb u.handle h) ts ≡ Some t → covers t.ranges n ≡ false → live_at (with_retrieval_of h p view ts) n ≡ live_at ts n
other_set h p view [] t n e c = absurd cc
other_set h p view (u ∷ us) t n e c =
    elim (eqb u.handle h) as (λ b. cond b (Some u) (find (λ v. eqb v.handle h) us) ≡ Some t → live_at (cond b (with_retrieval p view u ∷ us) (u ∷ with_retrieval_of h p view us)) n ≡ cond (covers u.ranges n) (Some u) (live_at us n)) [
      | true ↦ λ k. let no : covers u.ranges n ≡ false = ap (λ (v : Live). covers v.ranges n) (some_is u t k) ∙ c in rw no refl
      | false ↦ λ k. ap (λ (o : Option Live). cond (covers u.ranges n) (Some u) o) (other_set h p view us t n k c)
    ] e

-- the same pages are covered
pub some_set : (h p : ℕ) (view : View) (ts : List Live) (n : ℕ) → is_some (live_at (with_retrieval_of h p view ts) n) ≡ is_some (live_at ts n)
some_set h p view [] n = refl
some_set h p view (u ∷ us) n =
    elim (eqb u.handle h) as (λ b. is_some (live_at (cond b (with_retrieval p view u ∷ us) (u ∷ with_retrieval_of h p view us)) n) ≡ is_some (cond (covers u.ranges n) (Some u) (live_at us n))) [
      | true ↦ elim (covers u.ranges n) as (λ b. is_some (cond b (Some (with_retrieval p view u)) (live_at us n)) ≡ is_some (cond b (Some u) (live_at us n))) [ true ↦ refl | false ↦ refl ]
      | false ↦ elim (covers u.ranges n) as (λ b. is_some (cond b (Some u) (live_at (with_retrieval_of h p view us) n)) ≡ is_some (cond b (Some u) (live_at us n))) [ true ↦ refl | false ↦ some_set h p view us n ]
    ]
