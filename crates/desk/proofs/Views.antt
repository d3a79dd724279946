-- Places of a list after one is set, or after one more comes.
use Rattle.std.proofs.Common.{◌≡◌, ◌≢◌, ◌⊎◌, ℕ, zero, suc, ◌<◌, List, [], ◌∷◌, ◌++◌, length, set, inl, inr, refl, sym, ap, arith}
use mathlib.Core.Option.{some, some-ne-none, some-injective}
use lib.ListN.{get_elem?}

-- what stands in a list with one more stood there before, or is the new one, at the end
pub at_more : {A : Type 0} (l : List A) (a b : A) (j : ℕ) → get_elem? (l ++ a ∷ []) j ≡ some b → ((get_elem? l j ≡ some b) × (j < length l)) ⊎ ((a ≡ b) × (j ≡ length l))
at_more [] a b zero e = inr (some-injective a b e, refl)
at_more [] a b (suc j) e = absurd (some-ne-none b (sym e))
at_more (x ∷ xs) a b zero e = inl (e, omega arith)
at_more (x ∷ xs) a b (suc j) e = elim (at_more xs a b j e) [ inl h ↦ inl (h.0, omega (arith, h.1)) | inr h ↦ inr (h.0, omega (arith, h.1)) ]
