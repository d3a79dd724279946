-- Live transactions that stand in ascending order of their handles are found by halving.
use Rattle.std.proofs.Common.{◌≡◌, ◌≢◌, ℕ, zero, suc, ◌+◌, ◌*◌, ◌/◌, ◌^◌, ◌<◌, ◌≤◌, true, false, cond, eqb, ltb, List, [], ◌∷◌, ◌++◌, Some, None, length, get_or, filter, refl, sym, subst, ap, ◌∙◌, arith, eq-eqb}
use Rattle.std.specs.List.{AllByRecursion, insert, position, position_from}
use Rattle.std.specs.List.Sorted.{IsNonDecreasingBy, IsPartitionPoint}
use Rattle.std.proofs.lemmas.Bool.{ltb-true}
use Rattle.std.proofs.lemmas.Bool.Decides.{nat_tests}
use Rattle.std.proofs.lemmas.Iterator.Adapters.{position_from-zero}
use Rattle.base.specs.Transactions.{Live, AreAscending}
use Rattle.ledger.specs.Ledger.{found, IsPoint, NamesItsSender}

at_least : (a b : ℕ) → ltb a b ≡ false → b ≤ a
at_least a b past = grind (arith, nat_tests, past)

lower_is_other : (a b : ℕ) → a < b → eqb a b ≡ false
lower_is_other a b lt = grind (arith, nat_tests)

higher_is_other : (a b : ℕ) → b < a → eqb a b ≡ false
higher_is_other a b lt = grind (arith, nat_tests)

-- what stands at a place is one
pub one_there : (live : List Live) (i : ℕ) (t u : Live) → i < length live → t ≡ get_or live i t → u ≡ get_or live i u → t ≡ u
one_there [] i t u lt a b = absurd (omega arith)
one_there (v ∷ vs) zero t u lt a b = a ∙ sym b
one_there (v ∷ vs) (suc i) t u lt a b = one_there vs i t u (omega arith) a b

-- ---- handles rise

all_at : (P : Live → Type 0) (live : List Live) (j : ℕ) (d : Live) → AllByRecursion P live → j < length live → P (get_or live j d)
all_at P [] j d all lt = absurd (omega arith)
all_at P (u ∷ us) zero d all lt = all.0
all_at P (u ∷ us) (suc j) d all lt = all_at P us j d all.1 (omega arith)

pub handles-rise : (live : List Live) → AreAscending live → IsNonDecreasingBy (λ t. t.handle) live
handles-rise [] a i j d le below = absurd (omega arith)
handles-rise (u ∷ us) a zero zero d le below = omega arith
handles-rise (u ∷ us) a zero (suc j) d le below = let lt = all_at (λ v. u.handle < v.handle) us j d a.0 (omega arith) in omega (arith, lt)
handles-rise (u ∷ us) a (suc i) zero d le below = absurd (omega arith)
handles-rise (u ∷ us) a (suc i) (suc j) d le below = handles-rise us a.1 i j d (omega arith) (omega arith)

pub point-halved : (h : ℕ) (live : List Live) (i : ℕ) → i ≤ length live → IsPartitionPoint (λ (t : Live). ltb t.handle h ≡ true) (λ t. ltb t.handle h ≡ false) live i → IsPoint h live i
point-halved h live i most parted = record {
  most = most;
  lower = λ k d lt. ltb-true _ _ (parted.0 k d (omega arith) lt);
  others = λ k d from below. at_least _ _ (parted.1 k d from below);
}

-- among transactions that were named otherwise
pub point-named : (h k : ℕ) (live now : List Live) (i : ℕ) → h ≡ k → now ≡ live → IsPoint h now i → IsPoint k live i
point-named h k live now i e l at = subst (λ j. IsPoint j live i) e (subst (λ n. IsPoint h n i) l at)

-- ---- the place of a handle

next_one : (u : Live) (us : List Live) (h i : ℕ) → IsPoint h (u ∷ us) (suc i) → IsPoint h us i
next_one u us h i at = record {
  most = let most = at.most in omega (arith, most);
  lower = λ k d lt. at.lower (suc k) d (omega (arith, lt));
  others = λ k d from below. at.others (suc k) d (omega (arith, from)) (omega (arith, below));
}

none_lower : (u : Live) (us : List Live) (h : ℕ) → IsPoint h (u ∷ us) zero → IsPoint h us zero
none_lower u us h at = record {
  most = omega arith;
  lower = λ k d lt. absurd (omega (arith, lt));
  others = λ k d from below. at.others (suc k) d (omega arith) (omega (arith, below));
}

placed : (h : ℕ) (live : List Live) (i k : ℕ) (t : Live) → IsPoint h live i → i < length live → t ≡ get_or live i t → t.handle ≡ h → position_from (λ u. eqb u.handle h) k live ≡ Some (k + i)
placed h [] i k t at lt is same = absurd (omega arith)
placed h (u ∷ us) zero k t at lt is same =
    let here : eqb u.handle h ≡ true = eq-eqb u.handle h (ap (λ (v : Live). v.handle) (sym is) ∙ same) in
    rw here (ap (λ n. Some n) (omega arith))
placed h (u ∷ us) (suc i) k t at lt is same =
    rw (lower_is_other u.handle h (at.lower 0 u (omega arith)))
    (placed h us i (k + 1) t (next_one u us h i at) (omega arith) is same ∙ ap (λ n. Some n) (omega arith))

none_above : (h n k : ℕ) (live : List Live) → h ≤ n → AllByRecursion (λ u. n < u.handle) live → position_from (λ u. eqb u.handle h) k live ≡ None
none_above h n k [] le all = refl
none_above h n k (u ∷ us) le all =
    rw (higher_is_other u.handle h (let lt = all.0 in omega (arith, le, lt))) (none_above h n (k + 1) us le all.1)

not_placed : (h : ℕ) (live : List Live) (i k : ℕ) → AreAscending live → IsPoint h live i → ((t : Live) → i < length live → t ≡ get_or live i t → eqb t.handle h ≡ false) → position_from (λ u. eqb u.handle h) k live ≡ None
not_placed h [] i k a at other = refl
not_placed h (u ∷ us) zero k a at other =
    rw (other u (omega arith) refl) (none_above h u.handle (k + 1) us (at.others 0 u (omega arith) (omega arith)) a.0)
not_placed h (u ∷ us) (suc i) k a at other =
    rw (lower_is_other u.handle h (at.lower 0 u (omega arith)))
    (not_placed h us i (k + 1) a.1 (next_one u us h i at) (λ t lt is. other t (omega (arith, lt)) is))

pub position-found : (h : ℕ) (live : List Live) (i : ℕ) (t : Live) → IsPoint h live i → i < length live → t ≡ get_or live i t → t.handle ≡ h → Some i ≡ position (λ u. eqb u.handle h) live
position-found h live i t at lt is same = sym (position_from-zero (λ u. eqb u.handle h) live ∙ placed h live i 0 t at lt is same ∙ ap (λ n. Some n) (omega arith))

pub position-none : (h : ℕ) (live : List Live) (i : ℕ) → AreAscending live → IsPoint h live i → ((t : Live) → i < length live → t ≡ get_or live i t → eqb t.handle h ≡ false) → None ≡ position (λ u. eqb u.handle h) live
position-none h live i a at other = sym (position_from-zero (λ u. eqb u.handle h) live ∙ not_placed h live i 0 a at other)

-- a handle that none has differs from each
pub others_of : (live : List Live) (h : ℕ) → found live h ≡ None → AllByRecursion (λ u. u.handle ≢ h) live
others_of [] h e = tt
others_of (u ∷ us) h e =
    elim (eqb u.handle h) as (λ b. eqb u.handle h ≡ b → cond b (Some u) (found us h) ≡ None → AllByRecursion (λ v. v.handle ≢ h) (u ∷ us)) [
      | true ↦ λ is e. absurd cc
      | false ↦ λ not e. (λ same. let yes = eq-eqb u.handle h same in cc, others_of us h e)
    ] refl e

-- behind all others
pub insert-last : (live : List Live) (i : ℕ) (t : Live) → i ≡ length live → insert live i t ≡ live ++ t ∷ []
insert-last [] zero t is = refl
insert-last [] (suc i) t is = absurd (omega arith)
insert-last (u ∷ us) zero t is = absurd (omega arith)
insert-last (u ∷ us) (suc i) t is = ap (λ l. u ∷ l) (insert-last us i t (omega arith))

-- ---- those of a sender

high_part : (s h : ℕ) → h / 2 ^ 32 ≡ s → (s * 2 ^ 32 ≤ h) × (h < s * 2 ^ 32 + 2 ^ 32)
high_part s h is = (omega (arith, is), omega (arith, is))

pub counted : (p : ℕ) (live : List Live) (i j : ℕ) → IsPoint (p * 2 ^ 32) live i → IsPoint (p * 2 ^ 32 + 2 ^ 32) live j → AllByRecursion NamesItsSender live → j ≡ i + length (filter (λ t. eqb t.sender p) live)
counted p [] i j a b all = let no_a = a.most in let no_b = b.most in omega (arith, no_a, no_b)
counted p (u ∷ us) zero zero a b all =
    let above = b.others 0 u (omega arith) (omega arith) in
    let named = (high_part _ _ all.0).1 in
    rw (higher_is_other u.sender p (omega (arith, above, named))) (counted p us 0 0 (none_lower u us _ a) (none_lower u us _ b) all.1)
counted p (u ∷ us) zero (suc j) a b all =
    let from = a.others 0 u (omega arith) (omega arith) in
    let below = b.lower 0 u (omega arith) in
    let least = (high_part _ _ all.0).0 in
    let most = (high_part _ _ all.0).1 in
    let here : u.sender ≡ p = omega (arith, from, below, least, most) in
    let rest = counted p us 0 j (none_lower u us _ a) (next_one u us _ j b) all.1 in
    rw (eq-eqb u.sender p here) (omega (arith, rest))
counted p (u ∷ us) (suc i) zero a b all =
    let below = a.lower 0 u (omega arith) in
    let above = b.others 0 u (omega arith) (omega arith) in
    absurd (omega (arith, below, above))
counted p (u ∷ us) (suc i) (suc j) a b all =
    let below = a.lower 0 u (omega arith) in
    let least = (high_part _ _ all.0).0 in
    let rest = counted p us i j (next_one u us _ i a) (next_one u us _ j b) all.1 in
    rw (lower_is_other u.sender p (omega (arith, below, least))) (omega (arith, rest))

-- the same from handles that the code made: the sender's first, and the first of the sender behind
pub sent-between : (p first next : ℕ) (live : List Live) (i j : ℕ) → first ≡ p * 2 ^ 32 → next ≡ first + 2 ^ 32 → IsPoint first live i → IsPoint next live j → AllByRecursion NamesItsSender live → j ≡ i + length (filter (λ t. eqb t.sender p) live)
sent-between p first next live i j low high a b all =
    let last : next ≡ p * 2 ^ 32 + 2 ^ 32 = omega (arith, low, high) in
    counted p live i j (subst (λ h. IsPoint h live i) low a) (subst (λ h. IsPoint h live j) last b) all
