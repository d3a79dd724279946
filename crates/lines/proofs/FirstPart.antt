-- The first part of a split, and how it is found.
use Rattle.std.proofs.Common.{◌≡◌, ℕ, ◌+◌, ◌<◌, ◌≤◌, Bool, true, false, not, cond, ltb, eqb, List, [], ◌∷◌, length, get_or, take, drop, position, Option, Some, None, arith, subst, sym, ap, ◌∙◌, le_refl, refl}
use Rattle.std.specs.List.{slice_split, position_or_len}
use Rattle.std.proofs.lemmas.Grind.{common_steps}
use Rattle.std.proofs.lemmas.List.Splits.{slice_split_first, slice_split_none}
use Rattle.std.proofs.lemmas.List.Sums.{fails_before_first, position_or_len_is, prefix_len-le-length}
use Rattle.std.proofs.lemmas.Bool.Decides.{nat_tests}
use Rattle.memchr.specs.Find.{IsFirstByte}
use Rattle.lines.specs.Grammar.{halves_at}

-- what stands before the first element that passes, and the parts of what stands behind it
pub parted_at : (p : ℕ → Bool) (xs : List ℕ) (i : ℕ) → position p xs ≡ Some i → slice_split p xs ≡ take i xs ∷ slice_split p (drop (i + 1) xs)
parted_at p xs i e =
    let at : position_or_len p xs ≡ i = grind (arith, common_steps) in
    let inside : position_or_len p xs < length xs = grind (arith, common_steps) in
    subst (λ (n : ℕ). slice_split p xs ≡ take n xs ∷ slice_split p (drop (n + 1) xs)) at (slice_split_first p xs 0 inside)

-- where no element passes, one part
pub unparted : (p : ℕ → Bool) (xs : List ℕ) → position p xs ≡ None → slice_split p xs ≡ xs ∷ []
unparted p xs e =
    let within : position_or_len p xs ≤ length xs = prefix_len-le-length (λ x. not (p x)) xs in
    let long : position_or_len p xs ≡ length xs = grind (arith, common_steps) in
    slice_split_none p xs (λ k d lt. fails_before_first p xs k d (omega (arith, long)))

fails : (b : Bool) → (b ≡ true → ⊥) → b ≡ false
fails true h = absurd (h refl)
fails false h = refl

-- the first place that a search finds
pub searched : (test : ℕ → Bool) (xs : List ℕ) (found : Option ℕ) → IsFirstByte test xs found → found ≡ position test xs
searched test xs None nowhere =
    let end : position_or_len test xs ≡ length xs =
    position_or_len_is test xs (length xs) 0 (le_refl (length xs)) (λ k lt. fails (test (get_or xs k 0)) (nowhere k (omega arith) lt)) (λ lt. absurd (omega arith)) in
    let no : ltb (position_or_len test xs) (length xs) ≡ false = grind (arith, nat_tests) in
    sym (ap (λ (b : Bool). cond b (Some (position_or_len test xs)) None) no)
searched test xs (Some i) (first, passes) =
    let at : position_or_len test xs ≡ i =
    position_or_len_is test xs i 0 (omega (arith, first.high)) (λ k lt. fails (test (get_or xs k 0)) (first.before k (omega arith) lt)) (λ lt. passes) in
    let yes : ltb (position_or_len test xs) (length xs) ≡ true = grind (arith, nat_tests, first.high) in
    sym (ap (λ (b : Bool). cond b (Some (position_or_len test xs)) None) yes ∙ ap (λ (k : ℕ). Some k) at)

-- what stands before the first of these marks, and after it
pub halved : (mark i : ℕ) (word : List ℕ) → position (λ b. eqb b mark) word ≡ Some i → Some (take i word, drop (i + 1) word) ≡ halves_at mark word
halved mark i word e =
    let p = λ (b : ℕ). eqb b mark in
    let at : position_or_len p word ≡ i = grind (arith, common_steps) in
    let inside : position_or_len p word < length word = grind (arith, common_steps) in
    let yes : ltb (position_or_len p word) (length word) ≡ true = grind (arith, nat_tests) in
    sym (ap (λ (b : Bool). cond b (Some (take (position_or_len p word) word, drop (position_or_len p word + 1) word)) None) yes ∙ ap (λ (k : ℕ). Some (take k word, drop (k + 1) word)) at)

pub not_halved : (mark : ℕ) (word : List ℕ) → position (λ b. eqb b mark) word ≡ None → None ≡ halves_at mark word
not_halved mark word e =
    let p = λ (b : ℕ). eqb b mark in
    let no : ltb (position_or_len p word) (length word) ≡ false = grind (arith, common_steps) in
    sym (ap (λ (b : Bool). cond b (Some (take (position_or_len p word) word, drop (position_or_len p word + 1) word)) None) no)
