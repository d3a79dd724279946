-- The change of one receiver.
use Rattle.std.proofs.Common.{◌≡◌, ℕ, suc, ◌<◌, List, ◌∷◌, ◌++◌, length, get_or, take, drop, eqb, true, refl, sym, ap, ◌∙◌, drop-cons, eq-eqb}
use Rattle.std.proofs.lemmas.List.{set_split}
use Rattle.std.proofs.Math.ListN.{set}
use Rattle.base.specs.Access.{View}
use Rattle.base.specs.Transactions.{Receiver}
use Rattle.ledger.specs.Changes.{with_retrieved}

-- the receiver at a place, which is the partition and the first that is
pub with_retrieved_at : (p : ℕ) (view : View) (rs all : List Receiver) (i : ℕ) (r d : Receiver) → i < length rs → r ≡ get_or rs i d → r.partition ≡ p
    → take i rs ++ with_retrieved p view (drop i rs) ≡ all → set rs i (record r { retrieved = view }) ≡ all
with_retrieved_at p view rs all i r d lt is here so_far =
    let change : Receiver → Receiver = λ x. record x { retrieved = view } in
    let test : eqb (get_or rs i d).partition p ≡ true = rw (← is) (eq-eqb r.partition p here) in
    let one : take i rs ++ with_retrieved p view (drop i rs) ≡ take i rs ++ (change (get_or rs i d) ∷ drop (suc i) rs) = rw (drop-cons rs i d lt, test) refl in
    ap (λ (x : Receiver). set rs i (change x)) is ∙ set_split rs i (change (get_or rs i d)) lt ∙ sym one ∙ so_far
