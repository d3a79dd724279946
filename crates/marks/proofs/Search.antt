-- The search for the first bit.
use Rattle.std.proofs.Common.{◌≡◌, ℕ, zero, suc, ◌+◌, ◌-◌, ◌*◌, ◌/◌, ◌%◌, ◌<◌, ◌≤◌, true, List, slice_index, Option, Some, None, arith, sym, ◌∙◌, ap, subst, refl, add-zero, inl, inr}
use Rattle.std.specs.Prelude.{MatchOption}
use Rattle.std.proofs.lemmas.Bool.{cases_lt}
use Rattle.std.specs.Int.{bit_at}
use Rattle.marks.specs.Tree.{bit_in, IsLowestBit, IsSummed, IsInLevel, IsFirstBit, NoneBetween, level_start, low}
use Rattle.marks.proofs.Words.{bit_in-at}
use Rattle.marks.proofs.Levels.{level_start-suc, level_start-zero, level_start-rises, level_start-aligned, low-rises, low-level_start, none-below}

-- the first bit behind a place is that behind one before it, if none stands between them
pub first-behind : (words : List ℕ) (start from mid found : ℕ) → from ≤ mid → NoneBetween words from mid → IsFirstBit words start mid found → IsFirstBit words start from found
first-behind words start from mid found within none first = record {
  counts = first.counts;
  behind = omega (arith, first.behind, within);
  on = first.on;
  before = λ x above below. elim (cases_lt x mid) [
    | inl early ↦ none x above early
    | inr late ↦ first.before x late below
  ];
}

-- a bit of the last level is the first below itself
pub first-last : (words : List ℕ) (start bit level height : ℕ) → start ≡ level_start (level + height) → IsInLevel level bit → start ≤ bit → bit_in words bit ≡ true → IsFirstBit words start (low height bit) bit
unfolding low
first-last words start bit level zero is place last on =
    record { counts = last; behind = omega arith; on = on; before = λ x above below. absurd (omega arith) }
first-last words start bit level (suc height) is place last on =
    let next : suc level + height ≡ level + suc height = omega arith in
    let rise = level_start-rises (suc level) height in
    let end : level_start (suc level) ≤ start = rw (is, ← next) rise in
    absurd (omega (arith, end, place.to, last))

-- the first below a bit is the first below the lowest bit of its word
pub first-child : (words : List ℕ) (start bit lowest found level height : ℕ) → IsSummed start words → start ≡ level_start (level + height) → IsInLevel level bit → bit < start
    → lowest < 64 → NoneBetween words (64 * (bit + 1)) (64 * (bit + 1) + lowest)
    → ((l h : ℕ) → start ≡ level_start (l + h) → IsInLevel l (64 * (bit + 1) + lowest) → IsFirstBit words start (low h (64 * (bit + 1) + lowest)) found)
    → IsFirstBit words start (low height bit) found
unfolding low
first-child words start bit lowest found level zero summed is place before inside none rest =
    let same : level_start (level + 0) ≡ level_start level = ap level_start (add-zero level) in
    absurd (omega (arith, is, same, place.from, before))
first-child words start bit lowest found level (suc height) summed is place before inside none rest =
    let next : level + suc height ≡ suc level + height = omega arith in
    let start-is : start ≡ level_start (suc level + height) = is ∙ ap level_start next in
    let child = 64 * (bit + 1) + lowest in
    let ends = level_start-suc (suc level) in
    let begins = level_start-suc level in
    let below : IsInLevel (suc level) child = record { from = omega (arith, begins, place.from); to = omega (arith, ends, place.to, inside) } in
    first-behind words start (low height (64 * (bit + 1))) (low height child) found (low-rises height (64 * (bit + 1)) child (omega arith))
    (none-below words (suc level) height (64 * (bit + 1)) child (subst (λ s. IsSummed s words) start-is summed) (let to = below.to in omega (arith, to)) none)
    (rest (suc level) height start-is below)

-- no bit of a word is set from one place up to another
pub none-in_word : (words : List ℕ) (w from to : ℕ) → to ≤ 64 → ((i : ℕ) → from ≤ i → i < to → bit_at (slice_index words w) i ≡ 0) → NoneBetween words (64 * w + from) (64 * w + to)
none-in_word words w from to within none x above below =
    let i = x - 64 * w in
    let is : 64 * w + i ≡ x = omega (arith, above) in
    let off : bit_at (slice_index words w) i ≡ 0 = none i (omega (arith, above)) (omega (arith, below)) in
    rw (← is) (bit_in-at words w i (omega (arith, below, within)) ∙ rw off refl)

-- the first bit from a place of a word on, where that word has one there
pub first-in_word : (words : List ℕ) (start w place lowest found level height : ℕ) → IsSummed start words → start ≡ level_start (level + height) → IsInLevel level (64 * w)
    → IsLowestBit (slice_index words w) place lowest
    → ((l h : ℕ) → start ≡ level_start (l + h) → IsInLevel l (64 * w + lowest) → IsFirstBit words start (low h (64 * w + lowest)) found)
    → IsFirstBit words start (low height (64 * w + place)) found
first-in_word words start w place lowest found level height summed is in_level bit rest =
    let ends = level_start-suc level in
    let below : IsInLevel level (64 * w + lowest) = record { from = omega (arith, in_level.from); to = omega (arith, ends, in_level.to, bit.inside) } in
    let from = 64 * w + place in
    first-behind words start (low height from) (low height (64 * w + lowest)) found (low-rises height from (64 * w + lowest) (omega (arith, bit.from)))
    (none-below words level height from (64 * w + lowest) (subst (λ s. IsSummed s words) is summed) (let to = below.to in omega (arith, to)) (none-in_word words w place lowest (omega (arith, bit.inside)) bit.before))
    (rest level height is below)

-- none is set from a place of the root on
pub none-from_root : (words : List ℕ) (start w place level height : ℕ) → IsSummed start words → start ≡ level_start (level + height) → IsInLevel level (64 * w) → w ≡ 0
    → ((i : ℕ) → place ≤ i → i < 64 → bit_at (slice_index words w) i ≡ 0)
    → NoneBetween words (low height (64 * w + place)) (level_start (suc (level + height)))
none-from_root words start w place zero height summed is in_level root none =
    let first = level_start-suc zero in
    let from : level_start (suc zero) ≡ 64 * w + 64 = omega (arith, first, level_start-zero, root) in
    let end : low height (64 * w + 64) ≡ level_start (suc (zero + height)) = ap (low height) (sym from) ∙ low-level_start (suc zero) height ∙ ap level_start (omega arith) in
    rw (← end) (none-below words zero height (64 * w + place) (64 * w + 64) (subst (λ s. IsSummed s words) is summed) (omega (arith, from)) (none-in_word words w place 64 (omega arith) none))
none-from_root words start w place (suc level) height summed is in_level root none =
    let begins = level_start-suc level in
    absurd (omega (arith, begins, in_level.from, root))

first-widened : (result : Option ℕ) (words : List ℕ) (start from mid end last : ℕ) → NoneBetween words from mid → from ≤ mid → end ≡ last
    → MatchOption result (NoneBetween words mid end) (λ found. IsFirstBit words start mid found)
    → MatchOption result (NoneBetween words from last) (λ found. IsFirstBit words start from found)
first-widened None words start from mid end last none within is rest = λ x above below. elim (cases_lt x mid) [
  | inl early ↦ none x above early
  | inr late ↦ rest x late (omega (arith, is, below))
]
first-widened (Some found) words start from mid end last none within is rest = first-behind words start from mid found within none rest

-- where a word has none from a place on, the first is that behind the bit above it
pub first-above : (words : List ℕ) (start w place level height : ℕ) (result : Option ℕ) → IsSummed start words → start ≡ level_start (level + height) → IsInLevel level (64 * w) → 0 < w
    → place ≤ 64 → ((i : ℕ) → place ≤ i → i < 64 → bit_at (slice_index words w) i ≡ 0)
    → ((l h : ℕ) → start ≡ level_start (l + h) → IsInLevel l (64 * ((w - 1) / 64)) → MatchOption result
    (NoneBetween words (low h (64 * ((w - 1) / 64) + ((w - 1) % 64 + 1))) (level_start (suc (l + h))))
    (λ found. IsFirstBit words start (low h (64 * ((w - 1) / 64) + ((w - 1) % 64 + 1))) found))
    → MatchOption result
    (NoneBetween words (low height (64 * w + place)) (level_start (suc (level + height))))
    (λ found. IsFirstBit words start (low height (64 * w + place)) found)
unfolding low
first-above words start w place zero height result summed is in_level some within none rest =
    absurd (omega (arith, in_level.to, level_start-suc zero, level_start-zero, some))
first-above words start w place (suc level) height result summed is in_level some within none rest =
    let v = (w - 1) / 64 in
    let q = (w - 1) % 64 + 1 in
    let start-is : start ≡ level_start (level + suc height) = is ∙ ap level_start (omega arith) in
    let begins = level_start-suc level in
    let ends = level_start-suc (suc level) in
    let aligned = level_start-aligned level in
    let above : IsInLevel level (64 * v) = record { from = omega (arith, aligned, begins, in_level.from, some); to = omega (arith, ends, in_level.to, some) } in
    let next : 64 * (64 * v + q + 1) ≡ 64 * w + 64 = omega (arith, some) in
    let found = rest level (suc height) start-is above in
    first-widened result words start (low height (64 * w + place)) (low height (64 * (64 * v + q + 1))) (level_start (suc (level + suc height))) (level_start (suc (suc level + height)))
    (rw next (none-below words (suc level) height (64 * w + place) (64 * w + 64) (subst (λ s. IsSummed s words) is summed) (omega (arith, ends, in_level.to)) (none-in_word words w place 64 (omega arith) none)))
    (low-rises height (64 * w + place) (64 * (64 * v + q + 1)) (omega (arith, next, within))) (ap level_start (omega arith)) found

-- the first bit from a bit of the last level on, where its word has one there
pub first-here : (words : List ℕ) (start bit lowest : ℕ) → start ≤ bit → IsLowestBit (slice_index words (bit / 64)) (bit % 64) lowest → IsFirstBit words start bit (64 * (bit / 64) + lowest)
first-here words start bit lowest counts is = record {
  counts = omega (arith, counts, is.from);
  behind = omega (arith, is.from);
  on = bit_in-at words (bit / 64) lowest is.inside ∙ rw is.on refl;
  before = λ x above below. none-in_word words (bit / 64) (bit % 64) lowest (omega (arith, is.inside)) is.before x (omega (arith, above)) below;
}
