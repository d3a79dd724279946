-- Levels of bits, and what stands below a bit.
use Rattle.std.proofs.Common.{◌≡◌, ℕ, zero, suc, ◌+◌, ◌-◌, ◌*◌, ◌/◌, ◌≤◌, false, List, slice_index, arith, sym, ◌∙◌, ap, refl, add-zero}
use Rattle.marks.specs.Tree.{has_bits, IsSummed, NoneBetween, level_start, low}
use Rattle.marks.proofs.Words.{bit_in-zero, has_bits-none}

pub level_start-suc : (level : ℕ) → level_start (suc level) ≡ 64 * (level_start level + 1)
unfolding level_start
level_start-suc level = refl

pub level_start-zero : level_start zero ≡ 0
unfolding level_start
level_start-zero = refl

-- levels follow one another
pub level_start-rises : (level more : ℕ) → level_start level ≤ level_start (level + more)
level_start-rises level zero = rw (add-zero level) (omega arith)
level_start-rises level (suc more) =
    let next : level + suc more ≡ suc (level + more) = omega arith in
    let rest = level_start-rises level more in
    rw next (omega (arith, rest, level_start-suc (level + more)))

-- a level begins with a word
pub level_start-aligned : (level : ℕ) → 64 * (level_start level / 64) ≡ level_start level
level_start-aligned zero = rw level_start-zero refl
level_start-aligned (suc level) = let is = level_start-suc level in omega (arith, is)

pub low-rises : (height a b : ℕ) → a ≤ b → low height a ≤ low height b
unfolding low
low-rises zero a b within = within
low-rises (suc height) a b within = low-rises height (64 * (a + 1)) (64 * (b + 1)) (omega arith)

-- the first bit of a level stands above the first one of each level below
pub low-level_start : (level height : ℕ) → low height (level_start level) ≡ level_start (level + height)
unfolding low
low-level_start level zero = ap level_start (omega arith)
low-level_start level (suc height) =
    ap (low height) (sym (level_start-suc level)) ∙ low-level_start (suc level) height ∙ ap level_start (omega arith)

-- below bits that are not set, none is
pub none-below : (words : List ℕ) (level height a b : ℕ) → IsSummed (level_start (level + height)) words → b ≤ level_start (suc level) → NoneBetween words a b → NoneBetween words (low height a) (low height b)
unfolding low
none-below words level zero a b summed within none = none
none-below words level (suc height) a b summed within none =
    let next : suc level + height ≡ level + suc height = omega arith in
    let up = level_start-rises (suc level) height in
    let end : level_start (suc level) ≤ level_start (level + suc height) = rw (← next) up in
    let fewer : NoneBetween words (64 * (a + 1)) (64 * (b + 1)) = λ x from to.
    let w = x / 64 in
    let b' = w - 1 in
    let is : b' + 1 ≡ x / 64 = omega arith in
    let off : has_bits (slice_index words (b' + 1)) ≡ false = sym (summed.each b' (omega (arith, end, within))) ∙ none b' (omega arith) (omega arith) in
    bit_in-zero words x (ap (slice_index words) (sym is) ∙ has_bits-none (slice_index words (b' + 1)) off) in
    none-below words (suc level) height (64 * (a + 1)) (64 * (b + 1)) (rw next summed) (omega (arith, within, level_start-suc (suc level))) fewer
