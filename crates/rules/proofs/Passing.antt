-- Where no test of a table fails, each passes; and a test at the end of a table.
use Rattle.std.proofs.Common.{◌≡◌, Bool, true, false, List, [], ◌∷◌, ◌++◌, Some, None, cond, refl}
use Rattle.base.specs.declared.status.Status.{Status}
use Rattle.std.specs.List.{AllByRecursion}
use Rattle.base.specs.Refusals.{Test, ◌otherwise◌, first_refusal}

pub all_pass : (ts : List Test) → first_refusal ts ≡ None → AllByRecursion (λ t. t.passes ≡ true) ts
all_pass [] e = tt
all_pass (t ∷ ts) e =
    elim t.passes as (λ b. cond b (first_refusal ts) (Some t.refusal) ≡ None → (b ≡ true) × AllByRecursion (λ t. t.passes ≡ true) ts) [
      | true ↦ λ h. (refl, all_pass ts h)
      | false ↦ λ h. absurd cc
    ] e

-- where none of them fails, none of those before the last does, and the last passes
pub before_last : (ts : List Test) (passes : Bool) (status : Status) → first_refusal (ts ++ (passes otherwise status) ∷ []) ≡ None → (first_refusal ts ≡ None) × (passes ≡ true)
before_last [] true status e = (refl, refl)
before_last [] false status e = absurd cc
before_last (t ∷ ts) passes status e =
    elim t.passes as (λ b. cond b (first_refusal (ts ++ (passes otherwise status) ∷ [])) (Some t.refusal) ≡ None → (cond b (first_refusal ts) (Some t.refusal) ≡ None) × (passes ≡ true)) [
      | true ↦ λ h. before_last ts passes status h
      | false ↦ λ h. absurd cc
    ] e

-- where none before the last fails, the last decides
pub last_decides : (ts : List Test) (passes : Bool) (status : Status) → first_refusal ts ≡ None → first_refusal (ts ++ (passes otherwise status) ∷ []) ≡ cond passes None (Some status)
last_decides [] passes status e = refl
last_decides (t ∷ ts) passes status e =
    elim t.passes as (λ b. cond b (first_refusal ts) (Some t.refusal) ≡ None → cond b (first_refusal (ts ++ (passes otherwise status) ∷ [])) (Some t.refusal) ≡ cond passes None (Some status)) [
      | true ↦ λ h. last_decides ts passes status h
      | false ↦ λ h. absurd cc
    ] e

-- where one before the last fails, it decides
pub earlier_decides : (ts : List Test) (passes : Bool) (status first : Status) → first_refusal ts ≡ Some first → first_refusal (ts ++ (passes otherwise status) ∷ []) ≡ Some first
earlier_decides [] passes status first e = absurd cc
earlier_decides (t ∷ ts) passes status first e =
    elim t.passes as (λ b. cond b (first_refusal ts) (Some t.refusal) ≡ Some first → cond b (first_refusal (ts ++ (passes otherwise status) ∷ [])) (Some t.refusal) ≡ Some first) [
      | true ↦ λ h. earlier_decides ts passes status first h
      | false ↦ λ h. h
    ] e

-- ---- one table after another

pub first_decides : (ts us : List Test) (status : Status) → first_refusal ts ≡ Some status → first_refusal (ts ++ us) ≡ Some status
first_decides [] us status e = absurd cc
first_decides (t ∷ ts) us status e =
    elim t.passes as (λ b. cond b (first_refusal ts) (Some t.refusal) ≡ Some status → cond b (first_refusal (ts ++ us)) (Some t.refusal) ≡ Some status) [
      | true ↦ λ h. first_decides ts us status h
      | false ↦ λ h. h
    ] e

pub second_decides : (ts us : List Test) → first_refusal ts ≡ None → first_refusal (ts ++ us) ≡ first_refusal us
second_decides [] us e = refl
second_decides (t ∷ ts) us e =
    elim t.passes as (λ b. cond b (first_refusal ts) (Some t.refusal) ≡ None → cond b (first_refusal (ts ++ us)) (Some t.refusal) ≡ first_refusal us) [
      | true ↦ λ h. second_decides ts us h
      | false ↦ λ h. absurd cc
    ] e

-- where none of both fails, none of the first does
pub first_pass : (ts us : List Test) → first_refusal (ts ++ us) ≡ None → first_refusal ts ≡ None
first_pass [] us e = refl
first_pass (t ∷ ts) us e =
    elim t.passes as (λ b. cond b (first_refusal (ts ++ us)) (Some t.refusal) ≡ None → cond b (first_refusal ts) (Some t.refusal) ≡ None) [
      | true ↦ λ h. first_pass ts us h
      | false ↦ λ h. absurd cc
    ] e
