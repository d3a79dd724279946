-- The marks that the words say.
use Rattle.std.proofs.Common.{◌≡◌, ◌≢◌, ℕ, suc, ◌+◌, ◌-◌, ◌*◌, ◌/◌, ◌<◌, ◌≤◌, ◌^◌, Bool, true, false, not, List, length, slice_index, slice_index_or, slice_set, replicate, arith, inl, inr, sym, ◌∙◌, ap, refl, take, drop, ◌++◌}
use Rattle.std.proofs.lemmas.Bool.{cases_eq, cases_lt}
use Rattle.std.proofs.lemmas.Grind.{common_steps}
use Rattle.std.proofs.lemmas.List.{same_lists, get_or-set_same, get_or-set_other, length-set, length-replicate}
use Rattle.std.proofs.lemmas.List.FromFn.{length-map-range_with_len, get_or-map-range_with_len}
use Rattle.marks.specs.Tree.{bit_in, has_bits, IsSummed, IsSummedBut, IsInLevel, IsFirstBit, NoneBetween, IsTree, BeginLevel, level_start, marks_in}
use Rattle.marks.specs.Marks.{IsFirstUnmarked, AllMarkedFrom}
use Rattle.marks.proofs.Words.{bit_in-zero}
use Rattle.marks.proofs.Levels.{level_start-suc, level_start-aligned}

pub length-marks_in : (start count : ℕ) (words : List ℕ) → length (marks_in start count words) ≡ count
unfolding marks_in
length-marks_in start count words = length-map-range_with_len (λ bit. not (bit_in words bit)) start count

pub marks_in-at : (start count : ℕ) (words : List ℕ) (n : ℕ) (d : Bool) → n < count → slice_index_or (marks_in start count words) n d ≡ not (bit_in words (start + n))
unfolding marks_in
marks_in-at start count words n d below = get_or-map-range_with_len (λ bit. not (bit_in words bit)) start count n (start + n) d below refl

-- the bit of a number stands in the words
pub bit-inside : (start count : ℕ) (words : List ℕ) (n : ℕ) → IsTree start count words → n < count → start + n < 64 * length words
bit-inside start count words n tree below = omega (arith, tree.room, below)

-- and in a word of the last level
pub word-in_level : (start count : ℕ) (words : List ℕ) (n : ℕ) (tree : IsTree start count words) → n < count → IsInLevel tree.last.level (64 * ((start + n) / 64))
word-in_level start count words n tree below =
    let aligned = level_start-aligned tree.last.level in
    record { from = omega (arith, aligned, tree.last.begins); to = omega (arith, tree.last.fits, below) }

-- one bit of a number is written
pub tree-write : (start count n : ℕ) (on : Bool) (words after : List ℕ) → IsTree start count words → n < count → length after ≡ length words → bit_in after (start + n) ≡ on
    → ((s x : ℕ) → (start + n) / 64 ≤ s → s ≤ x → x ≢ start + n → bit_in after x ≡ bit_in words x)
    → ((s : ℕ) → IsSummedBut s (start + n) words → (start + n < s → on ≡ has_bits (slice_index words (start + n + 1))) → IsSummed s after)
    → IsTree start count after
tree-write start count n on words after tree below same here others summed =
    let ends = level_start-suc tree.last.level in
    let above : (start + n) / 64 ≤ start = omega (arith, ends, tree.last.fits, tree.last.begins, below) in
    record {
      last = tree.last;
      room = omega (arith, tree.room, same);
      small = omega (arith, tree.small, same);
      summed = summed start (record { each = λ b lower differs. tree.summed.each b lower }) (λ lower. absurd (omega arith));
      rest = λ x behind. others start x above (omega (arith, behind)) (λ is. omega (arith, is, behind, below)) ∙ tree.rest x behind;
    }

pub marks_in-write : (start count n : ℕ) (on : Bool) (words after : List ℕ) → IsTree start count words → n < count → bit_in after (start + n) ≡ on
    → ((s x : ℕ) → (start + n) / 64 ≤ s → s ≤ x → x ≢ start + n → bit_in after x ≡ bit_in words x)
    → marks_in start count after ≡ slice_set (marks_in start count words) n (not on)
marks_in-write start count n on words after tree below here others =
    let ends = level_start-suc tree.last.level in
    let above : (start + n) / 64 ≤ start = omega (arith, ends, tree.last.fits, tree.last.begins, below) in
    let old = length-marks_in start count words in
    same_lists (marks_in start count after) (slice_set (marks_in start count words) n (not on)) (length-marks_in start count after ∙ sym old ∙ sym (length-set (marks_in start count words) n (not on)))
    (λ k d inside.
    let small : k < count = omega (arith, inside, length-marks_in start count after) in
    marks_in-at start count after k d small ∙ (elim (cases_eq k n) [
      | inl is ↦ rw (is, here) (sym (get_or-set_same (marks_in start count words) n (not on) d (omega (arith, old, below))))
      | inr differs ↦ ap not (others start (start + k) above (omega arith) (λ same. differs (omega (arith, same)))) ∙ sym (marks_in-at start count words k d small) ∙ sym (get_or-set_other (marks_in start count words) n k (not on) d differs)
    ]))

-- words that are all 0
pub bit_in-zeros : (n x : ℕ) → bit_in (replicate n 0) x ≡ false
bit_in-zeros n x = bit_in-zero (replicate n 0) x (grind (arith, common_steps))

pub tree-zeros : (start count n : ℕ) → BeginLevel start count → start + count ≤ 64 * n → n ≤ 2 ^ 26 → IsTree start count (replicate n 0)
unfolding has_bits
tree-zeros start count n last room small = record {
  last = last;
  room = simp length-replicate room;
  small = simp length-replicate small;
  summed = record { each = λ b below. let zero : slice_index (replicate n 0) (b + 1) ≡ 0 = grind (arith, common_steps) in rw (bit_in-zeros n b, zero) refl };
  rest = λ x behind. bit_in-zeros n x;
}

pub marks_in-zeros : (start count n : ℕ) → marks_in start count (replicate n 0) ≡ replicate count true
marks_in-zeros start count n =
    let made = length-marks_in start count (replicate n 0) in
    same_lists (marks_in start count (replicate n 0)) (replicate count true) (made ∙ sym (length-replicate count true))
    (λ k d inside.
    let small : k < count = omega (arith, inside, made) in
    let is : slice_index_or (replicate count true) k d ≡ true = grind (arith, common_steps) in
    marks_in-at start count (replicate n 0) k d small ∙ ap not (bit_in-zeros n (start + k)) ∙ sym is)

-- the first bit that is set is the lowest number without a mark
pub found-unmarked : (start count n found : ℕ) (words : List ℕ) → IsTree start count words → IsFirstBit words (start) (start + n) found → IsFirstUnmarked (marks_in start count words) n (found - start)
found-unmarked start count n found words tree first =
    let back : start + (found - start) ≡ found = omega (arith, first.counts) in
    let on : bit_in words (start + (found - start)) ≡ true = rw back first.on in
    let short : found < start + count = elim (cases_lt found (start + count)) [
      | inl below ↦ below
      | inr behind ↦ let off = tree.rest found behind in let set = first.on in absurd (cc)
    ] in
    let small : found - start < count = omega (arith, short, first.counts) in
    record {
      inside = rw (length-marks_in start count words) small;
      from = omega (arith, first.behind);
      free = marks_in-at start count words (found - start) false small ∙ ap not on;
      before = λ k from below. marks_in-at start count words k false (omega (arith, below, small)) ∙ ap not (first.before (start + k) (omega (arith, from)) (omega (arith, below)));
    }

pub none-unmarked : (start count n : ℕ) (words : List ℕ) (tree : IsTree start count words) → NoneBetween words (start + n) (level_start (suc tree.last.level)) → AllMarkedFrom (marks_in start count words) n
none-unmarked start count n words tree none = λ k from inside.
    let small : k < count = omega (arith, inside, length-marks_in start count words) in
    marks_in-at start count words k false small ∙ ap not (none (start + k) (omega (arith, from)) (omega (arith, tree.last.fits, small)))

-- a list of the same length takes the place of another
pub items-written : (len : ℕ) (after before : List ℕ) → length after ≡ len → take len (after ++ drop (length after) before) ≡ after
items-written len after before whole = grind (arith, common_steps)
