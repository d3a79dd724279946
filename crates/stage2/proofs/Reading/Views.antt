-- What the words of canonical tables say of the views.
use Rattle.stage2.proofs.Names.{Access, entry_of, Layout, slot, slot_from, words_of, walk_in, view_of, AreCanonical, walk_across, walked, at_1, Walked, nat_tests, common_steps, Unmapped, Mapped, ◌≡◌, ◌⊎◌, List, ◌≤◌, ℕ, ◌/◌, arith, Some, ap}
use Rattle.stage2.specs.Tables.{TablesView}
use Rattle.stage2.specs.declared.walked.Walked.TheVariants.{Wrong}
use Rattle.stage2.proofs.Editing.FourChunkEdits.{tidy-answer}

-- words behind those of a page read 0
far-word : (words : List ℕ) (page i : ℕ) → 512 ≤ i → words_of words page i ≡ 0
unfolding words_of
far-word words page i far = grind (arith, common_steps, nat_tests)

far-walk : (layout : Layout) (words : List ℕ) (row n : ℕ) → 512 ≤ n / 512 / 512 → at_1 layout (words_of words) (words_of words) n (slot layout 1 (words_of words row (n / 512 / 512))) ≡ Unmapped
unfolding slot entry_of
far-walk layout words row n far = ap (λ w. at_1 layout (words_of words) (words_of words) n (slot_from layout (entry_of 1 w))) (far-word words row (n / 512 / 512) far)

-- each page is translated to itself, or not at all
pub walks-tidy : (t : TablesView) (p n : ℕ) → AreCanonical t → walk_in t p n ≡ walked n (view_of t p n)
unfolding walk_across
walks-tidy t p n canonical = grind (arith, common_steps, nat_tests, tidy-answer, far-walk)

-- so the end of a walk tells the access
pub walk-leaf : (t : TablesView) (p n m : ℕ) (a : Access) (w : Walked) → AreCanonical t → w ≡ walk_in t p n → w ≡ Mapped m a → walk_in t p n ≡ walked n (Some a)
walk-leaf t p n m a w canonical is ends = grind (arith, common_steps, nat_tests, walks-tidy)

pub walk-none : (t : TablesView) (p n : ℕ) (w : Walked) → AreCanonical t → w ≡ walk_in t p n → (w ≡ Unmapped) ⊎ (w ≡ Wrong) → walk_in t p n ≡ Unmapped
walk-none t p n w canonical is ends = grind (arith, common_steps, nat_tests, walks-tidy)
