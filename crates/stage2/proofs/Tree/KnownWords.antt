-- The words of a root and of a level 2 table that hang have a form of their level.
use Rattle.stage2.proofs.Names.{Pages, Layout, Slot, Bad, slot, at_1, at_2, walk, Gigabyte, table_at, IsOrderly, nat_tests, common_steps, ◌≡◌, ◌≢◌, ℕ, ◌+◌, ◌*◌, ◌/◌, ◌%◌, ◌<◌, Some, length, refl, arith, ap, ◌∙◌}
use Rattle.stage2.specs.declared.walked.Walked.TheVariants.{Wrong}
use Rattle.stage2.proofs.Tree.WalkFrame.{walk-gigabyte}
use Rattle.stage2.proofs.Tree.LinkTable.{walk-inside}

-- the walk of a chunk's first page goes on at the chunk's word
pub chunk-walk : (layout : Layout) (m : Pages) (row g i q : ℕ) → row < length layout.ids → i < 512 → table_at layout m.words (Gigabyte row g) ≡ Some q
    → walk layout m.words row (512 * (512 * g + i)) ≡ at_2 layout m.words (512 * (512 * g + i)) (slot layout 2 (m.words q i))
chunk-walk layout m row g i q inside small table =
    let first : 512 * (512 * g + i) / 512 / 512 ≡ g = omega (arith, small) in
    let second : 512 * (512 * g + i) / 512 % 512 ≡ i = omega (arith, small) in
    walk-gigabyte layout m.words row (512 * (512 * g + i)) q inside (ap (λ x. table_at layout m.words (Gigabyte row x)) first ∙ table)
    ∙ ap (λ x. at_2 layout m.words (512 * (512 * g + i)) (slot layout 2 (m.words q x))) second

module _ (layout : Layout) (m : Pages) (h : IsOrderly layout m) where
  pub wrong-root : (row g : ℕ) → row < length layout.ids → g < 512 → (s : Slot) → slot layout 1 (m.words row g) ≡ s → at_1 layout m.words m.words (262144 * g) s ≡ Wrong → ⊥
  wrong-root row g inside below s is wrong = grind (arith, common_steps, nat_tests, walk-inside layout m.words row (262144 * g) inside, h.tidy)

  pub root-known : (row g : ℕ) → row < length layout.ids → g < 512 → slot layout 1 (m.words row g) ≢ Bad
  root-known row g inside below bad = wrong-root row g inside below Bad bad refl

  pub second-known : (row g i q : ℕ) → row < length layout.ids → g < 512 → i < 512 → table_at layout m.words (Gigabyte row g) ≡ Some q → slot layout 2 (m.words q i) ≢ Bad
  second-known row g i q inside below small table bad = grind (arith, common_steps, nat_tests, chunk-walk layout m row g i q inside small table, h.tidy)
