-- The change of one mailbox.
use Rattle.std.proofs.Common.{◌≡◌, ℕ, suc, ◌<◌, List, ◌∷◌, ◌++◌, Option, length, get_or, take, drop, eqb, Bool, true, false, refl, sym, ap, ◌∙◌, drop-cons, eq-eqb}
use Rattle.std.proofs.lemmas.List.{set_split}
use Rattle.std.proofs.Math.ListN.{set}
use Rattle.base.specs.Buffers.{Pair, Mailbox, pair_of, with_pair, with_rx, holding}
use Rattle.std.specs.Option.{option_map}

-- the mailbox at a place, which is the partition's and the first that is
pub with_pair_at : (p : ℕ) (pair : Option Pair) (boxes all : List Mailbox) (i : ℕ) (box d : Mailbox) → i < length boxes → box ≡ get_or boxes i d → box.partition ≡ p
    → take i boxes ++ with_pair p pair (drop i boxes) ≡ all → set boxes i (record box { pair = pair }) ≡ all
with_pair_at p pair boxes all i box d lt is here so_far =
    let change : Mailbox → Mailbox = λ b. record b { pair = pair } in
    let test : eqb (get_or boxes i d).partition p ≡ true = rw (← is) (eq-eqb box.partition p here) in
    let one : take i boxes ++ with_pair p pair (drop i boxes) ≡ take i boxes ++ (change (get_or boxes i d) ∷ drop (suc i) boxes) = rw (drop-cons boxes i d lt, test) refl in
    ap (λ (b : Mailbox). set boxes i (change b)) is ∙ set_split boxes i (change (get_or boxes i d)) lt ∙ sym one ∙ so_far

-- ---- the pair of a partition, from a place on

-- at a mailbox of another partition it is that of those behind it
pub pair_past : (p : ℕ) (boxes : List Mailbox) (i : ℕ) (box d : Mailbox) (pair : Option Pair) → i < length boxes → box ≡ get_or boxes i d → eqb box.partition p ≡ false → pair_of (drop i boxes) p ≡ pair → pair_of (drop (suc i) boxes) p ≡ pair
pair_past p boxes i box d pair lt is other so_far =
    let test : eqb (get_or boxes i d).partition p ≡ false = rw (← is) other in
    let one : pair_of (drop i boxes) p ≡ pair_of (drop (suc i) boxes) p = rw (drop-cons boxes i d lt, test) refl in
    sym one ∙ so_far

pair_here : (p : ℕ) (boxes : List Mailbox) (i : ℕ) (box d : Mailbox) → i < length boxes → box ≡ get_or boxes i d → box.partition ≡ p → pair_of (drop i boxes) p ≡ pair_of boxes p → box.pair ≡ pair_of boxes p
pair_here p boxes i box d lt is here so_far =
    let test : eqb (get_or boxes i d).partition p ≡ true = rw (← is) (eq-eqb box.partition p here) in
    let one : pair_of (drop i boxes) p ≡ (get_or boxes i d).pair = rw (drop-cons boxes i d lt, test) refl in
    ap (λ (b : Mailbox). b.pair) is ∙ sym one ∙ so_far

-- the mailbox at a place, which is the partition's and the first that is, has RX held or not
pub with_rx_at : (p : ℕ) (held : Bool) (boxes : List Mailbox) (i : ℕ) (box d : Mailbox) (pair : Option Pair) → i < length boxes → box ≡ get_or boxes i d → box.partition ≡ p → pair ≡ option_map (holding held) box.pair
    → pair_of (drop i boxes) p ≡ pair_of boxes p → take i boxes ++ with_pair p (option_map (holding held) (pair_of boxes p)) (drop i boxes) ≡ with_rx p held boxes → set boxes i (record box { pair = pair }) ≡ with_rx p held boxes
with_rx_at p held boxes i box d pair lt is here after mine so_far =
    let same : pair ≡ option_map (holding held) (pair_of boxes p) = after ∙ ap (option_map (holding held)) (pair_here p boxes i box d lt is here mine) in
    ap (λ (o : Option Pair). set boxes i (record box { pair = o })) same
    ∙ with_pair_at p (option_map (holding held) (pair_of boxes p)) boxes (with_rx p held boxes) i box d lt is here so_far
