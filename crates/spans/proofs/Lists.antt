-- Parts of lists.
use Rattle.std.proofs.Common.{◌≡◌, ℕ, zero, suc, ◌+◌, ◌-◌, ◌<◌, ◌≤◌, List, [], ◌∷◌, ◌++◌, length, get_or, take, drop, length-append, refl, sym, ap, ◌∙◌, arith}
use Rattle.std.proofs.Common.{Result, IsOk, is_ok, if◌then◌else◌}
use Rattle.std.proofs.Math.ListN.{set, get_or-append}
use Rattle.std.proofs.Math.Seq.{drop-cons, take-append_seam, drop-append_seam}
use Rattle.std.proofs.lemmas.List.{take-append-drop, length-take, length-drop, get_or_default, take_all, take-take, take-append-le, take-set-le, drop-set, get_or-take}

-- what stands before a place, with other things behind it
module _ {A : Type 0} (i : ℕ) (xs ys : List A) (le : i ≤ length xs) where
  taken_long : length (take i xs) ≡ i
  taken_long = let l = length-take i xs in omega arith

  pub front-of : take i (take i xs ++ ys) ≡ take i xs
  front-of = ap (λ (k : ℕ). take k (take i xs ++ ys)) (sym taken_long) ∙ take-append_seam (take i xs) ys

  pub rest-of : drop i (take i xs ++ ys) ≡ ys
  rest-of = ap (λ (k : ℕ). drop k (take i xs ++ ys)) (sym taken_long) ∙ drop-append_seam (take i xs) ys

pub set_parts : {A : Type 0} (xs : List A) (i : ℕ) (x : A) → i < length xs → set xs i x ≡ take i xs ++ x ∷ drop (i + 1) xs
set_parts xs i x lt =
    sym (take-append-drop i (set xs i x))
    ∙ ap (λ l. l ++ drop i (set xs i x)) (take-set-le i xs i x (omega arith))
    ∙ ap (λ l. take i xs ++ l) (drop-set xs i x lt)

pub get_or-set_at : {A : Type 0} (xs : List A) (i : ℕ) (x d : A) → i < length xs → get_or (set xs i x) i d ≡ x
get_or-set_at [] i x d lt = absurd (omega arith)
get_or-set_at (y ∷ xs) zero x d lt = refl
get_or-set_at (y ∷ xs) (suc i) x d lt = get_or-set_at xs i x d (omega arith)

-- what was lent of a place in a list
pub lent_at : {A : Type 0} (inside xs : List A) (i : ℕ) (d x : A) → inside ≡ xs → i < length xs → x ≡ get_or inside i x → get_or xs i d ≡ x
lent_at inside xs i d x list lt is = get_or_default xs i d x lt ∙ sym (is ∙ ap (λ l. get_or l i x) list)

pub parts_of : {A : Type 0} (xs : List A) (i : ℕ) (d : A) → i < length xs → xs ≡ take i xs ++ get_or xs i d ∷ drop (i + 1) xs
parts_of xs i d lt =
    let on : suc i ≡ i + 1 = omega arith in
    sym (take-append-drop i xs) ∙ ap (λ l. take i xs ++ l) (drop-cons xs i d lt ∙ ap (λ (k : ℕ). get_or xs i d ∷ drop k xs) on)

pub drop-cons-at : {A : Type 0} (xs : List A) (i : ℕ) (d : A) → i < length xs → drop i xs ≡ get_or xs i d ∷ drop (i + 1) xs
drop-cons-at xs i d lt = let on : suc i ≡ i + 1 = omega arith in drop-cons xs i d lt ∙ ap (λ (k : ℕ). get_or xs i d ∷ drop k xs) on

-- one is taken out, and the one before it is another
module _ {A : Type 0} (xs : List A) (at : ℕ) (some : 0 < at) (lt : at < length xs) where
  pub removed-get : (d : A) → get_or (take at xs ++ drop (at + 1) xs) (at - 1) d ≡ get_or xs (at - 1) d
  removed-get d = let l = length-take at xs in get_or-append (take at xs) (drop (at + 1) xs) d (at - 1) (omega arith) ∙ get_or-take at xs (at - 1) d (omega (arith, some))

  pub removed-set : (x : A) → set (take at xs ++ drop (at + 1) xs) (at - 1) x ≡ take (at - 1) xs ++ x ∷ drop (at + 1) xs
  removed-set x =
      let l = length-take at xs in
      let a = length-append (take at xs) (drop (at + 1) xs) in
      let on : at - 1 + 1 ≡ at = omega (arith, some) in
      set_parts (take at xs ++ drop (at + 1) xs) (at - 1) x (omega (arith, a, l, some, lt))
      ∙ ap (λ m. m ++ x ∷ drop (at - 1 + 1) (take at xs ++ drop (at + 1) xs)) (take-append-le (at - 1) (take at xs) (drop (at + 1) xs) (omega (arith, l, lt)) ∙ take-take (at - 1) at xs (omega arith))
      ∙ ap (λ m. take (at - 1) xs ++ x ∷ m) (ap (λ (k : ℕ). drop k (take at xs ++ drop (at + 1) xs)) on ∙ rest-of at xs (drop (at + 1) xs) (omega (arith, lt)))

pub no_items : {A : Type 0} (xs : List A) → length xs ≡ 0 → xs ≡ []
no_items [] e = refl
no_items (x ∷ xs) e = absurd (omega arith)

suc_on : (a b : ℕ) → suc a + b ≡ suc (a + b)
suc_on a b = omega arith

none_taken : {A : Type 0} (n : ℕ) → take {A = A} n [] ≡ []
none_taken zero = refl
none_taken (suc n) = refl

pub take_more_of : {A : Type 0} (done len : ℕ) (l : List A) → take (done + len) l ≡ take done l ++ take len (drop done l)
take_more_of zero len l = ap (λ (k : ℕ). take k l) (omega arith)
take_more_of (suc done) len [] = none_taken (suc done + len) ∙ sym (none_taken len)
take_more_of (suc done) len (x ∷ l) = ap (λ (k : ℕ). take k (x ∷ l)) (suc_on done len) ∙ ap (λ m. x ∷ m) (take_more_of done len l)

pub extended : {A B E : Type 0} (r : Result B E) (was more now : List A) → IsOk r → now ≡ (if is_ok r then was ++ more else was) → now ≡ was ++ more
extended r was more now ok is = rw ok at is

-- what is lent of a list from a place on
pub rest_lent : {A : Type 0} (a : ℕ) (xs : List A) → a ≤ length xs → take (length xs - a) (drop a xs) ≡ drop a xs
rest_lent a xs le = let l = length-drop a xs in take_all (length xs - a) (drop a xs) (omega arith)
