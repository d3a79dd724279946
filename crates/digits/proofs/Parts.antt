-- Parts of a list, and one that is written over.
use Rattle.std.proofs.Common.{◌≡◌, ℕ, take, drop, ◌+◌, List, ◌++◌, length, sym, ap, ◌∙◌, append-nil, arith}
use Rattle.std.proofs.Math.Seq.{take-append-add, drop-append-add}
use borrow.Rule.Slice.PartMut.{put_mid, mid_of}

pub take_past : (xs ys : List ℕ) (n k : ℕ) → length xs + n ≡ k → take k (xs ++ ys) ≡ xs ++ take n ys
take_past xs ys n k sum = ap (λ j. take j (xs ++ ys)) (sym sum) ∙ take-append-add xs ys n

pub drop_past : (xs ys : List ℕ) (n k : ℕ) → length xs + n ≡ k → drop k (xs ++ ys) ≡ drop n ys
drop_past xs ys n k sum = ap (λ j. drop j (xs ++ ys)) (sym sum) ∙ drop-append-add xs ys n

take_seam : (xs ys : List ℕ) (i : ℕ) → length xs ≡ i → take i (xs ++ ys) ≡ xs
take_seam xs ys i long = take_past xs ys 0 i (omega (arith, long)) ∙ append-nil xs

drop_seam : (xs ys : List ℕ) (i : ℕ) → length xs ≡ i → drop i (xs ++ ys) ≡ ys
drop_seam xs ys i long = drop_past xs ys 0 i (omega (arith, long))

pub mid_at : (front old back : List ℕ) (i k : ℕ) → length front ≡ i → length old ≡ k → mid_of i k (front ++ (old ++ back)) ≡ old
mid_at front old back i k before long = ap (λ xs. take k xs) (drop_seam front (old ++ back) i before) ∙ take_seam old back k long

pub put_at : (front old back new : List ℕ) (i k : ℕ) → length front ≡ i → length old ≡ k → put_mid i k (front ++ (old ++ back)) new ≡ front ++ (new ++ back)
put_at front old back new i k before long =
    ap (λ xs. xs ++ (new ++ drop k (drop i (front ++ (old ++ back))))) (take_seam front (old ++ back) i before)
    ∙ ap (λ xs. front ++ (new ++ drop k xs)) (drop_seam front (old ++ back) i before)
    ∙ ap (λ xs. front ++ (new ++ xs)) (drop_seam old back k long)
