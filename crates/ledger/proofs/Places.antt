-- The place of a handle among the live transactions.
use Rattle.std.proofs.Common.{◌≡◌, ℕ, zero, suc, ◌+◌, ◌<◌, ◌≤◌, true, false, cond, eqb, List, [], ◌∷◌, Option, Some, None, length, refl, sym, ap, ◌∙◌, arith}
use Rattle.std.specs.List.{slice_get, position, position_from, remove}
use Rattle.std.proofs.lemmas.Iterator.Adapters.{position_from-zero}
use Rattle.std.proofs.Math.ListN.{set}
use Rattle.base.specs.Access.{View}
use Rattle.base.specs.Transactions.{Live}
use Rattle.ledger.specs.Ledger.{found}
use Rattle.ledger.specs.Changes.{with_retrieval, with_retrieval_of, without}

-- the first transaction of the handle stands there
pub record IsPlace (live : List Live) (h i : ℕ) : Type 0 where
  pub inside : i < length live
  pub got : slice_get live i ≡ found live h
  pub removed : remove live i ≡ without h live
  pub changed : (p : ℕ) (view : View) (t : Live) → slice_get live i ≡ Some t → set live i (with_retrieval p view t) ≡ with_retrieval_of h p view live

least : (live : List Live) (h k j : ℕ) → position_from (λ (t : Live). eqb t.handle h) k live ≡ Some j → k ≤ j
least [] h k j e = absurd cc
least (u ∷ us) h k j e =
    elim (eqb u.handle h) as (λ b. cond b (Some k) (position_from (λ (t : Live). eqb t.handle h) (k + 1) us) ≡ Some j → k ≤ j) [
      | true ↦ λ e. let same : k ≡ j = cc in omega arith
      | false ↦ λ e. let more = least us h (k + 1) j e in omega arith
    ] e

here : (u : Live) (us : List Live) (h : ℕ) → eqb u.handle h ≡ true → IsPlace (u ∷ us) h zero
here u us h is = record {
  inside = omega arith;
  got = rw is refl;
  removed = rw is refl;
  changed = λ p view t e. let same : u ≡ t = cc in rw is (ap (λ (x : Live). with_retrieval p view x ∷ us) (sym same));
}

further : (u : Live) (us : List Live) (h i : ℕ) → eqb u.handle h ≡ false → IsPlace us h i → IsPlace (u ∷ us) h (suc i)
further u us h i not at = record {
  inside = omega (arith, at.inside);
  got = rw not at.got;
  removed = rw not (ap (λ (ts : List Live). u ∷ ts) at.removed);
  changed = λ p view t e. rw not (ap (λ (ts : List Live). u ∷ ts) (at.changed p view t e));
}

pub IsPlace-from : (live : List Live) (h k i j : ℕ) → position_from (λ (t : Live). eqb t.handle h) k live ≡ Some j → j ≡ k + i → IsPlace live h i
IsPlace-from [] h k i j e at = absurd cc
IsPlace-from (u ∷ us) h k zero j e at =
    elim (eqb u.handle h) as (λ b. eqb u.handle h ≡ b → cond b (Some k) (position_from (λ (t : Live). eqb t.handle h) (k + 1) us) ≡ Some j → IsPlace (u ∷ us) h zero) [
      | true ↦ λ is e. here u us h is
      | false ↦ λ not e. let more = least us h (k + 1) j e in absurd (omega arith)
    ] refl e
IsPlace-from (u ∷ us) h k (suc i) j e at =
    elim (eqb u.handle h) as (λ b. eqb u.handle h ≡ b → cond b (Some k) (position_from (λ (t : Live). eqb t.handle h) (k + 1) us) ≡ Some j → IsPlace (u ∷ us) h (suc i)) [
      | true ↦ λ is e. let same : k ≡ j = cc in absurd (omega arith)
      | false ↦ λ not e. further u us h i not (IsPlace-from us h (k + 1) i j e (omega arith))
    ] refl e

-- no transaction has the handle
pub record HasNone (live : List Live) (h : ℕ) : Type 0 where
  pub got : found live h ≡ None
  pub removed : without h live ≡ live
  pub changed : (p : ℕ) (view : View) → with_retrieval_of h p view live ≡ live

none_of : (u : Live) (us : List Live) (h : ℕ) → eqb u.handle h ≡ false → HasNone us h → HasNone (u ∷ us) h
none_of u us h not less = record {
  got = rw not less.got;
  removed = rw not (ap (λ (ts : List Live). u ∷ ts) less.removed);
  changed = λ p view. rw not (ap (λ (ts : List Live). u ∷ ts) (less.changed p view));
}

pub HasNone-from : (live : List Live) (h k : ℕ) → position_from (λ (t : Live). eqb t.handle h) k live ≡ None → HasNone live h
HasNone-from [] h k e = record { got = refl; removed = refl; changed = λ p view. refl }
HasNone-from (u ∷ us) h k e =
    elim (eqb u.handle h) as (λ b. eqb u.handle h ≡ b → cond b (Some k) (position_from (λ (t : Live). eqb t.handle h) (k + 1) us) ≡ None → HasNone (u ∷ us) h) [
      | true ↦ λ is e. absurd cc
      | false ↦ λ not e. none_of u us h not (HasNone-from us h (k + 1) e)
    ] refl e

-- ---- what a search found

pub IsPlace-in : (live searched : List Live) (h i : ℕ) (found : Option ℕ) → searched ≡ live → found ≡ position (λ (t : Live). eqb t.handle h) searched → found ≡ Some i → IsPlace live h i
IsPlace-in live searched h i found same by is =
    IsPlace-from live h 0 i i (ap (position_from (λ (t : Live). eqb t.handle h) 0) (sym same) ∙ sym (position_from-zero (λ (t : Live). eqb t.handle h) searched) ∙ sym by ∙ is) (omega arith)

pub HasNone-in : (live searched : List Live) (h : ℕ) (found : Option ℕ) → searched ≡ live → found ≡ position (λ (t : Live). eqb t.handle h) searched → found ≡ None → HasNone live h
HasNone-in live searched h found same by is =
    HasNone-from live h 0 (ap (position_from (λ (t : Live). eqb t.handle h) 0) (sym same) ∙ sym (position_from-zero (λ (t : Live). eqb t.handle h) searched) ∙ sym by ∙ is)
