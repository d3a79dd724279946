-- Words that are turned: none is there, and the old ones are 0 exactly where the new ones are not.
use Rattle.pool.proofs.Names.{common_steps, nat_tests, PageRun, words_of, nonzero_in, WordRange, with_range, MayWrite, NoneThere, at_drop_more, at_drop_all, ◌≡◌, ℕ, ◌+◌, ◌<◌, ◌≤◌, Bool, ◌-◌, arith, List, [], ◌∷◌, length, drop, get_or}
use Rattle.pool.specs.Writing.{Turns}
use Rattle.pool.proofs.Nonzero.{nonzero-zeros}
use Rattle.pool.proofs.Stretches.{nonzero-filled, nonzero-cleared}

-- ---- words from an index on, so many of them

module _ {old : List ℕ} {r : WordRange} (turned : Turns old r) where
  -- none is there
  pub turned-differ : NoneThere old r
  turned-differ x lt same = grind (arith, common_steps, nat_tests, turned.each x lt, turned.zeros)

  module _ {stands : ℕ → Bool} (may : MayWrite old stands r) where
    small : r.first + (r.end - r.first) ≤ 512
    small = omega (arith, may.ordered, may.index_in)

    pub turned-least : r.word ≡ 0 → r.end - r.first ≤ nonzero_in (words_of old) r.page
    turned-least zero = grind (arith, nonzero-cleared old r.page r.first (r.end - r.first) may.page_in.inside small)

    -- how many are not 0 then
    pub turned-counted : {new : List ℕ} {count after : ℕ} → new ≡ with_range old r → count ≡ nonzero_in (words_of old) r.page
        → (r.word ≡ 0 → after + (r.end - r.first) ≡ count) → (0 < r.word → after ≡ count + (r.end - r.first)) → after ≡ nonzero_in (words_of new) r.page
    turned-counted written counted less more = let zeros = turned.zeros in grind (arith, nat_tests, nonzero-cleared old r.page r.first (r.end - r.first) may.page_in.inside small, nonzero-filled old r.page r.first (r.end - r.first) r.word r.step may.page_in.inside small)

-- words come in the place of zeros, where all of the page are 0
pub turns-empty : (words : List ℕ) (range : WordRange) → 0 < range.word → range.end ≤ 512 → nonzero_in (words_of words) range.page ≡ 0 → Turns words range
turns-empty words range some small none = grind (arith, nat_tests, nonzero-zeros (words_of words) range.page)

-- ---- runs

pub runs-left : (runs : List PageRun) (i : ℕ) (run : PageRun) → i < length runs → run ≡ get_or runs i run → drop i runs ≡ run ∷ drop (i + 1) runs
runs-left runs i run lt is = grind (arith, common_steps, at_drop_more (λ l. l) runs i run lt)

pub runs-done : (runs : List PageRun) (i : ℕ) → length runs ≤ i → drop i runs ≡ []
runs-done runs i all = at_drop_all (λ l. l) runs i all
