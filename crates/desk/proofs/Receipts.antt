-- The receipts of one seat.
use Rattle.std.proofs.Common.{if◌then◌else◌, add-zero, ◌≡◌, ◌≢◌, ◌⊎◌, ℕ, zero, suc, ◌+◌, ◌<◌, ◌≤◌, ◌==◌, Bool, true, false, List, [], ◌∷◌, ◌++◌, map, length, Some, cond, inl, inr, refl, sym, ap, ◌∙◌, subst, arith, append_assoc, length-append, eq-eqb, ne_eqb, nat_eq, slice_index_or}
use Rattle.std.specs.Prelude.{slice_get, Contains}
use Rattle.std.specs.List.{AllByRecursion}
use Rattle.base.specs.Manifest.{ManifestRows}
use Rattle.base.specs.State.{State, start}
use Rattle.rules.specs.Call.{CallWords}
use Rattle.rules.specs.Run.{answer, step, state_from}
use Rattle.desk.specs.declared.entry.Entry.{Entry}
use Rattle.desk.specs.declared.receipt.Receipt.{Receipt}
use Rattle.desk.specs.Receipts.{calls_of, receipt_of, next_receipt, IsReceiptIn, receipts_from, receipts_at, places_of, IsAscending, AreReceiptsOf, NoneOf, count_of}
use Rattle.desk.proofs.Numbers.{same_if, is_same, is_apart}
use Rattle.desk.proofs.Runs.{receipt_is_right, state_of_more}

-- ---- one call more

-- a call of the seat at the end adds its receipt
pub receipts_from-own : (n : ℕ) (s : State) (k : ℕ) (es : List Entry) (e : Entry) → e.seat ≡ n
    → receipts_from n s k (es ++ e ∷ []) ≡ receipts_from n s k es ++ receipt_of (k + length es) e.call (answer (state_from s (calls_of es)) e.call) ∷ []
receipts_from-own n s k [] e own =
    ap (λ b. if b then receipt_of k e.call (answer s e.call) ∷ [] else []) (is_same e.seat n own)
    ∙ ap (λ p. receipt_of p e.call (answer s e.call) ∷ []) (sym (add-zero k))
receipts_from-own n s k (x ∷ es) e own =
    let r : Receipt = receipt_of k x.call (answer s x.call) in
    let t : State = step s x.call in
    let last : ℕ → Receipt = λ p. receipt_of p e.call (answer (state_from t (calls_of es)) e.call) in
    let place : k + 1 + length es ≡ k + length (x ∷ es) = omega arith in
    let more : receipts_from n t (k + 1) (es ++ e ∷ []) ≡ receipts_from n t (k + 1) es ++ last (k + length (x ∷ es)) ∷ [] =
    receipts_from-own n t (k + 1) es e own ∙ ap (λ p. receipts_from n t (k + 1) es ++ last p ∷ []) place in
    elim (x.seat == n) as (λ b. (if b then r ∷ receipts_from n t (k + 1) (es ++ e ∷ []) else receipts_from n t (k + 1) (es ++ e ∷ []))
    ≡ (if b then r ∷ receipts_from n t (k + 1) es else receipts_from n t (k + 1) es) ++ last (k + length (x ∷ es)) ∷ [])
    [ true ↦ ap (λ rs. r ∷ rs) more | false ↦ more ]

-- calls of others add none
pub receipts_from-others : (n : ℕ) (s : State) (k : ℕ) (es rest : List Entry) → NoneOf n rest → receipts_from n s k (es ++ rest) ≡ receipts_from n s k es
receipts_from-others n s k [] [] others = refl
receipts_from-others n s k [] (x ∷ rest) others =
    ap (λ b. if b then receipt_of k x.call (answer s x.call) ∷ receipts_from n (step s x.call) (k + 1) rest else receipts_from n (step s x.call) (k + 1) rest) (is_apart x.seat n others.0)
    ∙ receipts_from-others n (step s x.call) (k + 1) [] rest others.1
receipts_from-others n s k (x ∷ es) rest others =
    let r : Receipt = receipt_of k x.call (answer s x.call) in
    ap (λ (rs : List Receipt). if x.seat == n then r ∷ rs else rs) (receipts_from-others n (step s x.call) (k + 1) es rest others)

-- the seat's receipts once others have made calls, and then the seat one
pub receipts_at-answered : (m : ManifestRows) (n : ℕ) (seen others : List Entry) (e : Entry) → e.seat ≡ n → NoneOf n others
    → receipts_at m n ((seen ++ others) ++ e ∷ []) ≡ receipts_at m n seen ++ next_receipt m (seen ++ others) e.call ∷ []
receipts_at-answered m n seen others e own none_own =
    let es = seen ++ others in
    let last : ℕ → Receipt = λ p. receipt_of p e.call (answer (state_from (start m) (calls_of es)) e.call) in
    let place : 0 + length es ≡ length es = omega arith in
    receipts_from-own n (start m) 0 es e own
    ∙ ap (λ p. receipts_at m n es ++ last p ∷ []) place
    ∙ ap (λ rs. rs ++ last (length es) ∷ []) (receipts_from-others n (start m) 0 seen others none_own)

-- ---- how many they are

pub length-receipts_from : (n : ℕ) (s : State) (k : ℕ) (es : List Entry) → length (receipts_from n s k es) ≡ count_of n es
length-receipts_from n s k [] = refl
length-receipts_from n s k (x ∷ es) =
    let t : State = step s x.call in
    let r : Receipt = receipt_of k x.call (answer s x.call) in
    let rest = length-receipts_from n t (k + 1) es in
    elim (x.seat == n) as (λ b. length (if b then r ∷ receipts_from n t (k + 1) es else receipts_from n t (k + 1) es) ≡ (if b then count_of n es + 1 else count_of n es))
    [ true ↦ omega (arith, rest) | false ↦ rest ]

pub count_of-others : (n : ℕ) (es rest : List Entry) → NoneOf n rest → count_of n (es ++ rest) ≡ count_of n es
count_of-others n [] [] others = refl
count_of-others n [] (x ∷ rest) others =
    ap (λ b. if b then count_of n rest + 1 else count_of n rest) (is_apart x.seat n others.0) ∙ count_of-others n [] rest others.1
count_of-others n (x ∷ es) rest others = ap (λ c. if x.seat == n then c + 1 else c) (count_of-others n es rest others)

pub count_of-own : (n : ℕ) (es : List Entry) (e : Entry) → e.seat ≡ n → count_of n (es ++ e ∷ []) ≡ count_of n es + 1
count_of-own n [] e own = ap (λ b. if b then 1 else 0) (is_same e.seat n own)
count_of-own n (x ∷ es) e own =
    let more = count_of-own n es e own in
    elim (x.seat == n) as (λ b. (if b then count_of n (es ++ e ∷ []) + 1 else count_of n (es ++ e ∷ [])) ≡ (if b then count_of n es + 1 else count_of n es) + 1)
    [ true ↦ omega (arith, more) | false ↦ more ]

-- ---- they are those of the seat's calls

-- where a receipt is right if the test holds, and others are
all_if : (P : Receipt → Type 0) (r : Receipt) (rs : List Receipt) (b : Bool) → (b ≡ true → P r) → AllByRecursion P rs → AllByRecursion P (if b then r ∷ rs else rs)
all_if P r rs true own all = (own refl, all)
all_if P r rs false own all = all

-- the receipts of a seat's calls behind others are right
receipts_are_right : (m : ManifestRows) (n : ℕ) (before es : List Entry)
    → AllByRecursion (IsReceiptIn m (before ++ es) n) (receipts_from n (state_from (start m) (calls_of before)) (length before) es)
receipts_are_right m n before [] = tt
receipts_are_right m n before (e ∷ es) =
    let s : State = state_from (start m) (calls_of before) in
    let longer : length (before ++ e ∷ []) ≡ length before + 1 = omega (arith, length-append before (e ∷ [])) in
    let joined = append_assoc before (e ∷ []) es in
    let goes = state_of_more (start m) before e in
    let rest = subst (λ (z : List Entry × (State × ℕ)). AllByRecursion (IsReceiptIn m z.0 n) (receipts_from n z.1.0 z.1.1 es))
    (λ i. (joined i, (goes i, longer i))) (receipts_are_right m n (before ++ e ∷ []) es) in
    let right = receipt_is_right m before e es in
    all_if (IsReceiptIn m (before ++ e ∷ es) n) (next_receipt m before e.call) (receipts_from n (step s e.call) (length before + 1) es) (e.seat == n)
    (λ is. subst (λ (x : ℕ). IsReceiptIn m (before ++ e ∷ es) x (next_receipt m before e.call)) (same_if e.seat n is) right)
    rest

-- the numbers ascend, and the first is no less than this
abbrev AscendFrom : ℕ → List ℕ → Type 0
AscendFrom k [] = Unit {0}
AscendFrom k (n ∷ ns) = (k ≤ n) × AscendFrom (n + 1) ns

ascending : (k : ℕ) (ns : List ℕ) → AscendFrom k ns → IsAscending ns
ascending k [] up = tt
ascending k (n ∷ []) up = tt
ascending k (n ∷ m ∷ ns) up = (let a = up.1.0 in omega arith, ascending (n + 1) (m ∷ ns) up.1)

ascend_lower : (j k : ℕ) (ns : List ℕ) → j ≤ k → AscendFrom k ns → AscendFrom j ns
ascend_lower j k [] le up = tt
ascend_lower j k (n ∷ ns) le up = (let a = up.0 in omega arith, up.1)

places_ascend : (n : ℕ) (s : State) (k : ℕ) (es : List Entry) → AscendFrom k (places_of (receipts_from n s k es))
places_ascend n s k [] = tt
places_ascend n s k (x ∷ es) =
    let t : State = step s x.call in
    let r : Receipt = receipt_of k x.call (answer s x.call) in
    let rest = places_ascend n t (k + 1) es in
    elim (x.seat == n) as (λ b. AscendFrom k (places_of (if b then r ∷ receipts_from n t (k + 1) es else receipts_from n t (k + 1) es)))
    [ true ↦ (omega arith, rest) | false ↦ ascend_lower k (k + 1) _ (omega arith) rest ]

contains_here : (n : ℕ) (ns : List ℕ) → Contains (n ∷ ns) n
contains_here n ns = (0, omega arith, refl)

contains_there : (n m : ℕ) (ns : List ℕ) → Contains ns m → Contains (n ∷ ns) m
contains_there n m ns at = (suc at.0, (let l = at.1 in omega arith), at.2)

-- each call of the seat has a receipt
each_has_one : (n : ℕ) (s : State) (k : ℕ) (es : List Entry) (place : ℕ) (e : Entry) → slice_get es place ≡ Some e → e.seat ≡ n
    → Contains (places_of (receipts_from n s k es)) (k + place)
each_has_one n s k [] place e at own = absurd (cc (at))
each_has_one n s k (x ∷ es) zero e at own =
    let t : State = step s x.call in
    let r : Receipt = receipt_of k x.call (answer s x.call) in
    let rest : List Receipt = receipts_from n t (k + 1) es in
    let here : x ≡ e = cc (at) in
    subst (λ (b : Bool). Contains (places_of (if b then r ∷ rest else rest)) (k + 0)) (sym (is_same x.seat n (ap (λ (y : Entry). y.seat) here ∙ own)))
    (subst (λ (p : ℕ). Contains (k ∷ places_of rest) p) (sym (add-zero k)) (contains_here k (places_of rest)))
each_has_one n s k (x ∷ es) (suc place) e at own =
    let t : State = step s x.call in
    let r : Receipt = receipt_of k x.call (answer s x.call) in
    let rest : List Receipt = receipts_from n t (k + 1) es in
    let further : k + 1 + place ≡ k + suc place = omega arith in
    let there : Contains (places_of rest) (k + suc place) = subst (Contains (places_of rest)) further (each_has_one n t (k + 1) es place e at own) in
    elim (x.seat == n) as (λ b. Contains (places_of (if b then r ∷ rest else rest)) (k + suc place))
    [ true ↦ contains_there k (k + suc place) (places_of rest) there | false ↦ there ]

-- the receipts of a seat are those of its calls
pub are_receipts : (m : ManifestRows) (n : ℕ) (es : List Entry) → AreReceiptsOf m es n (receipts_at m n es)
are_receipts m n es = record {
  of_calls = receipts_are_right m n [] es;
  ascending = ascending 0 (places_of (receipts_at m n es)) (places_ascend n (start m) 0 es);
  of_each = λ place e at own.
      let found : Contains (places_of (receipts_at m n es)) (0 + place) = each_has_one n (start m) 0 es place e at own in
      let same : 0 + place ≡ place = omega arith in
      subst (Contains (places_of (receipts_at m n es))) same found;
}
