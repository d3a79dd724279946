-- The places of a block, while they are emptied one after another.
use Rattle.pool.proofs.Names.{common_steps, set, ◌≡◌, ℕ, zero, suc, ◌+◌, ◌<◌, List, [], ◌∷◌, ◌++◌, length, replicate, drop, get_or, refl, ap, arith, add-one}

-- ---- places that are changed one after another

module _ {X : Type 0} where
  -- these items, the first of which are replaced by one
  abbrev pub swept : X → ℕ → List X → List X
  swept x count items = replicate count x ++ drop count items

  pub swept-here : (x : X) (count : ℕ) (items : List X) (d : X) → count < length items → get_or (swept x count items) count d ≡ get_or items count d
  swept-here x count items d below = grind (arith, common_steps)

  pub swept-next : (x : X) (count : ℕ) (items : List X) → count < length items → set (swept x count items) count x ≡ swept x (count + 1) items
  swept-next x count [] below = absurd (omega (arith, below))
  swept-next x zero (y ∷ items) below = refl
  swept-next x (suc count) (y ∷ items) below = let rest = rw add-one at (swept-next x count items (omega (arith, below))) in rw add-one (ap (λ xs. x ∷ xs) rest)
