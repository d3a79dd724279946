-- Lists of parts that a loop reads one by one.
use Rattle.std.proofs.Common.{◌≡◌, ℕ, zero, suc, ◌+◌, ◌-◌, ◌<◌, ◌≤◌, Bool, true, false, ◌&&◌, cond, leb, List, [], ◌∷◌, ◌++◌, length, get_or, drop, Option, Some, None, option_map, replicate, refl, sym, ap, subst, ◌∙◌, arith, append_assoc, append-nil}
use Rattle.std.proofs.lemmas.List.{at_drop_more, at_drop_all, length_push, length-drop, get_or-map}
use Rattle.std.proofs.Math.Seq.{set-append_seam}
use Rattle.std.proofs.Math.ListN.{set, length-map}
use denote.Ref.{Bor}
use Rattle.std.proofs.lemmas.List.Splits.{length-slice_split}
use Rattle.std.proofs.lemmas.Bool.Decides.{nat_tests}
use Rattle.lines.specs.Lines.{texts, number_of}
use Rattle.lines.specs.Grammar.{◌>>=◌, each, one_to, registers_of, parted_by}

-- the first n parts write these
pub record Reads {A : Type 0} (read : List ℕ → Option A) (parts : List (List ℕ)) (n : ℕ) (done : List A) : Type 0 where
  pub count : length done ≡ n
  pub rest : option_map (λ more. done ++ more) (each read (drop n parts)) ≡ each read parts

map_same : {A : Type 0} (o : Option (List A)) → option_map (λ more. [] ++ more) o ≡ o
map_same None = refl
map_same (Some xs) = refl

pub reads_none : {A : Type 0} (read : List ℕ → Option A) (parts : List (List ℕ)) → Reads read parts 0 []
reads_none read parts = record { count = refl; rest = map_same (each read parts) }

pushed : {A : Type 0} (done : List A) (a : A) (o : Option (List A)) → option_map (λ more. (done ++ a ∷ []) ++ more) o ≡ option_map (λ more. done ++ more) (o >>= λ rest. Some (a ∷ rest))
pushed done a None = refl
pushed done a (Some xs) = ap (λ ys. Some ys) (append_assoc done (a ∷ []) xs)

-- one part more
pub reads_more : {A : Type 0} (read : List ℕ → Option A) (parts : List (List ℕ)) (n : ℕ) (done : List A) (x : List ℕ) (a : A) → Reads read parts n done → (n < length parts) × (x ≡ get_or parts n x) → read x ≡ Some a → Reads read parts (n + 1) (done ++ a ∷ [])
reads_more read parts n done x a r at is =
    let next : each read (drop n parts) ≡ (read x >>= λ first. each read (drop (n + 1) parts) >>= λ rest. Some (first ∷ rest)) =
    at_drop_more (each read) parts n x at.0 ∙ ap (λ y. read y >>= λ first. each read (drop (n + 1) parts) >>= λ rest. Some (first ∷ rest)) (sym at.1) in
    let read_next : each read (drop n parts) ≡ (each read (drop (n + 1) parts) >>= λ rest. Some (a ∷ rest)) =
    next ∙ ap (λ o. o >>= λ first. each read (drop (n + 1) parts) >>= λ rest. Some (first ∷ rest)) is in
    record {
      count = length_push done a ∙ ap (λ k. k + 1) r.count;
      rest = pushed done a (each read (drop (n + 1) parts)) ∙ ap (option_map (λ more. done ++ more)) (sym read_next) ∙ r.rest;
    }

-- what is left of parts, by its first one
pub left_first : (parts : List (List ℕ)) (n : ℕ) (x : List ℕ) (rest : List (List ℕ)) → x ∷ rest ≡ drop n parts → (n < length parts) × (x ≡ get_or parts n x) × (rest ≡ drop (n + 1) parts)
left_first [] zero x rest e = absurd cc
left_first (part ∷ parts) zero x rest e = (omega arith, cc, cc)
left_first [] (suc n) x rest e = absurd cc
left_first (part ∷ parts) (suc n) x rest e =
    let more = left_first parts n x rest e in
    let place : n + 1 ≡ suc n = omega arith in
    (omega (arith, more.0), more.1, more.2 ∙ ap (λ (k : ℕ). drop k parts) place ∙ ap (λ (k : ℕ). drop k (part ∷ parts)) {x = suc (suc n)} {y = suc n + 1} (omega arith))

-- a loop that takes the first part of what is left goes on
pub reads_next : {A : Type 0} (read : List ℕ → Option A) (parts : List (List ℕ)) (done after : List A) (x : List ℕ) (rest : List (List ℕ)) (a : A) → Reads read parts (length done) done → x ∷ rest ≡ drop (length done) parts → read x ≡ Some a → after ≡ done ++ a ∷ [] → Reads read parts (length after) after × (rest ≡ drop (length after) parts)
reads_next read parts done after x rest a r left is after_is =
    let first = left_first parts (length done) x rest left in
    let count : length done + 1 ≡ length after = sym (ap length after_is ∙ length_push done a) in (
      subst (λ n. Reads read parts n after) count (subst (Reads read parts (length done + 1)) (sym after_is) (reads_more read parts (length done) done x a r (first.0, first.1) is)),
      first.2 ∙ ap (λ n. drop n parts) count,
    )

-- nothing is left
pub none_left : (parts : List (List ℕ)) (n : ℕ) → [] ≡ drop n parts → length parts ≤ n
none_left parts n e = omega (arith, length-drop n parts, ap length e)

pub reads_end : {A : Type 0} (read : List ℕ → Option A) (parts : List (List ℕ)) (n : ℕ) (done : List A) → Reads read parts n done → [] ≡ drop n parts → each read parts ≡ Some done
reads_end read parts n done r end =
    sym r.rest ∙ ap (λ left. option_map (λ more. done ++ more) (each read left)) (sym end) ∙ ap (λ ys. Some ys) (append-nil done)

-- a part that writes nothing
pub reads_bad : {A : Type 0} (read : List ℕ → Option A) (parts : List (List ℕ)) (n : ℕ) (done : List A) (x : List ℕ) → Reads read parts n done → (n < length parts) × (x ≡ get_or parts n x) → read x ≡ None → each read parts ≡ None
reads_bad read parts n done x r at is =
    let next : each read (drop n parts) ≡ (read x >>= λ first. each read (drop (n + 1) parts) >>= λ rest. Some (first ∷ rest)) =
    at_drop_more (each read) parts n x at.0 ∙ ap (λ y. read y >>= λ first. each read (drop (n + 1) parts) >>= λ rest. Some (first ∷ rest)) (sym at.1) in
    sym r.rest ∙ ap (option_map (λ more. done ++ more)) (next ∙ ap (λ o. o >>= λ first. each read (drop (n + 1) parts) >>= λ rest. Some (first ∷ rest)) is)

-- no part is left
pub reads_all : {A : Type 0} (read : List ℕ → Option A) (parts : List (List ℕ)) (n : ℕ) (done : List A) → Reads read parts n done → n ≡ length parts → each read parts ≡ Some done
reads_all read parts n done r end =
    let none : each read (drop n parts) ≡ Some [] = at_drop_all (each read) parts n (omega arith) in
    sym r.rest ∙ ap (option_map (λ more. done ++ more)) none ∙ ap (λ ys. Some ys) (append-nil done)

none_of : {A : Type 0} (b : Bool) (o : Option A) → o ≡ None → None ≡ cond b o None
none_of true o e = sym e
none_of false o e = refl

-- where a part writes nothing, all do
pub one_to_bad : {A : Type 0} (most : ℕ) (read : List ℕ → Option A) (parts : List (List ℕ)) → each read parts ≡ None → None ≡ one_to most read parts
one_to_bad most read parts e = none_of _ _ e

pub one_to_many : {A : Type 0} (most : ℕ) (read : List ℕ → Option A) (parts : List (List ℕ)) → most < length parts → None ≡ one_to most read parts
one_to_many most read parts h =
    let many : (leb 1 (length parts) && leb (length parts) most) ≡ false = grind (arith, nat_tests) in
    sym (ap (λ b. cond b (each read parts) None) many)

pub one_to_all : {A : Type 0} (most : ℕ) (read : List ℕ → Option A) (parts : List (List ℕ)) (done : List A) → 1 ≤ length parts → length parts ≤ most → each read parts ≡ Some done → Some done ≡ one_to most read parts
one_to_all most read parts done some few e =
    let within : (leb 1 (length parts) && leb (length parts) most) ≡ true = grind (arith, nat_tests) in
    sym (ap (λ b. cond b (each read parts) None) within ∙ e)

-- a text has one part at least
pub some_parts : (byte : ℕ) (text : List ℕ) → 1 ≤ length (parted_by byte text)
some_parts byte text = omega (arith, length-slice_split (λ b. lib.Dec.eqb b byte) text)

-- eight registers, of which the first are read: one more
pub registers_more : (done : List ℕ) (i n : ℕ) → length done ≡ i → i < 8 → set (done ++ replicate (8 - i) 0) i n ≡ (done ++ n ∷ []) ++ replicate (8 - (i + 1)) 0
registers_more done i n count small =
    let one : 8 - i ≡ suc (8 - (i + 1)) = omega arith in
    ap (λ k. set (done ++ replicate k 0) i n) one ∙ ap (λ k. set (done ++ 0 ∷ replicate (8 - (i + 1)) 0) k n) (sym count)
    ∙ set-append_seam done 0 (replicate (8 - (i + 1)) 0) n ∙ sym (append_assoc done (n ∷ []) (replicate (8 - (i + 1)) 0))

pub length-texts : (words : List (Bor (List ℕ))) → length (texts words) ≡ length words
length-texts words = length-map words (λ word. word.now)

-- what a word of a slice is
pub word_at : (words : List (Bor (List ℕ))) (i : ℕ) (d : Bor (List ℕ)) → i < length words → (i < length (texts words)) × ((get_or words i d).now ≡ get_or (texts words) i (get_or words i d).now)
word_at words i d h =
    (omega (arith, length-texts words), sym (get_or-map (λ word. word.now) words i d (get_or words i d).now h))

padded : List ℕ → Option (List ℕ)
padded registers = Some (registers ++ replicate (8 - length registers) 0)

-- a word is no register
pub registers_bad : (words : List (List ℕ)) → each number_of words ≡ None → None ≡ registers_of words
unfolding padded
registers_bad words e = ap (λ o. o >>= padded) (one_to_bad 8 number_of words e)

-- all are read
pub registers_all : (words : List (List ℕ)) (done : List ℕ) (i : ℕ) → Reads number_of words i done → i ≡ length words → 1 ≤ length words → length words ≤ 8 → Some (done ++ replicate (8 - i) 0) ≡ registers_of words
unfolding padded
registers_all words done i r end some few =
    ap (λ n. Some (done ++ replicate (8 - n) 0)) (sym r.count) ∙ ap (λ o. o >>= padded) (one_to_all 8 number_of words done some few (reads_all number_of words i done r end))

-- there are more than eight
pub registers_many : (words : List (List ℕ)) → 8 < length words → None ≡ registers_of words
unfolding padded
registers_many words h = ap (λ o. o >>= padded) (one_to_many 8 number_of words h)
