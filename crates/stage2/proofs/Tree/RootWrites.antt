-- A word of a root is written: which tables hang, and what walks give.
use Rattle.std.proofs.Common.{◌≡◌, ◌≢◌, ℕ, ◌/◌, ◌^◌, ◌<◌, ◌&&◌, cond, eqb, Option, Some, None, length, refl, arith, ap, sym, ◌∙◌, ◌⊎◌, inl, inr}
use Rattle.stage2.proofs.Names.{nat_tests, Words, put, Layout, Empty, Next, slot, index_1, index_2, index_3, at_1, walk, walk_across, Place, Root, Gigabyte, Chunk, next_page, chunk_table, table_at, IsForest, common_steps, Unmapped, cases_eq}
use Rattle.stage2.proofs.Tree.WalkFrame.{put-other, put-same, walk-same, other_table, table_at-gigabyte, table_at-chunk, table_at-root, IsUnheld, IsLevel2Write, table_at-level_2, table_at-level_2-other}

-- whether a place is this chunk's
pub is_chunk : (a : Place) (p c : ℕ) → (a ≡ Chunk p c) ⊎ (a ≢ Chunk p c)
is_chunk a p c = grind (arith, common_steps, nat_tests)

pub is_gigabyte : (a : Place) (p g : ℕ) → (a ≡ Gigabyte p g) ⊎ (a ≢ Gigabyte p g)
is_gigabyte a p c = grind (arith, common_steps, nat_tests)

-- whether two numbers are these
pub is_pair : (a b x y : ℕ) → ((x ≡ a) × (y ≡ b)) ⊎ (x ≡ a → y ≡ b → ⊥)
is_pair a b x y = grind (arith, common_steps, nat_tests)

-- what is one value at two numbers, and another elsewhere
pub at-pair : {A : Type 0} (a b x y : ℕ) {c u v : A} → (x ≡ a → y ≡ b → c ≡ u) → ((x ≡ a → y ≡ b → ⊥) → c ≡ v) → c ≡ cond (eqb x a && eqb y b) u v
at-pair a b x y here there = grind (arith, common_steps, nat_tests, is_pair)

pub forest-level_2 : (layout : Layout) (words : Words) (p g j i word : ℕ) → IsLevel2Write layout words p g j i word → IsForest layout (put j i word words)
forest-level_2 layout words p g j i word h = grind (arith, common_steps, nat_tests, is_chunk, table_at-level_2-other, table_at-level_2)

-- ---- a write into a root

pub record IsRootWrite (layout : Layout) (words : Words) (p g word : ℕ) : Type 0 where
  pub forest : IsForest layout words
  pub partition : p < length layout.ids
  pub gigabyte : g < 512
  pub fresh : (j : ℕ) → next_page (slot layout 1 word) ≡ Some j → IsUnheld layout words j
  -- the table that hangs here afterwards has no valid word
  pub empty : (j x : ℕ) → next_page (slot layout 1 word) ≡ Some j → x < 512 → slot layout 2 (words j x) ≡ Empty
  -- nothing was mapped below, and no table hung there
  pub unmapped : (n : ℕ) → n < 2 ^ 27 → n / 512 / 512 ≡ g → walk layout words p n ≡ Unmapped
  pub clean : (slot layout 1 word ≡ Empty) ⊎ ((j : ℕ) × (slot layout 1 word ≡ Next j))

root-second : (layout : Layout) (words : Words) (p g word : ℕ) → IsRootWrite layout words p g word → (p' g' j : ℕ) → p' < length layout.ids → g' < 512
    → table_at layout words (Gigabyte p' g') ≡ Some j → (x : ℕ) → put p g word words j x ≡ words j x
root-second layout words p g word h p' g' j inside below at_j x =
    other_table layout words (Root p) (Gigabyte p' g') p j g word h.forest h.partition (inside, below) (table_at-root layout words p) at_j (λ e. cc) x

pub table_at-root_write : (layout : Layout) (words : Words) (p g word : ℕ) → IsRootWrite layout words p g word → table_at layout (put p g word words) (Gigabyte p g) ≡ next_page (slot layout 1 word)
unfolding table_at
table_at-root_write layout words p g word h = ap (λ w. next_page (slot layout 1 w)) (put-same words p g word)

pub table_at-root_write-gigabyte : (layout : Layout) (words : Words) (p g word : ℕ) → IsRootWrite layout words p g word → (p' g' : ℕ) → p' < length layout.ids → g' < 512
    → (p' ≡ p → g' ≡ g → ⊥) → table_at layout (put p g word words) (Gigabyte p' g') ≡ table_at layout words (Gigabyte p' g')
table_at-root_write-gigabyte layout words p g word h p' g' inside below other = grind (arith, common_steps, nat_tests, table_at-gigabyte, put-other)

pub table_at-root_write-chunk : (layout : Layout) (words : Words) (p g word : ℕ) → IsRootWrite layout words p g word → (p' c : ℕ) → p' < length layout.ids → c < 262144
    → (p' ≡ p → c / 512 ≡ g → ⊥) → table_at layout (put p g word words) (Chunk p' c) ≡ table_at layout words (Chunk p' c)
table_at-root_write-chunk layout words p g word h p' c inside below other = grind (arith, common_steps, nat_tests, table_at-chunk, put-other, root-second)

-- no table hangs below the gigabyte afterwards
below_empty : (layout : Layout) (words : Words) (p g word : ℕ) → IsRootWrite layout words p g word → (c : ℕ) → c / 512 ≡ g → (o : Option ℕ) → next_page (slot layout 1 word) ≡ o → chunk_table layout (put p g word words) c o ≡ None
below_empty layout words p g word h c e None f = refl
below_empty layout words p g word h c e (Some j) f = grind (arith, common_steps, nat_tests, put-other, h.fresh, table_at-root layout words p, h.empty)

pub table_at-root_write-below : (layout : Layout) (words : Words) (p g word : ℕ) → IsRootWrite layout words p g word → (c : ℕ) → c / 512 ≡ g → table_at layout (put p g word words) (Chunk p c) ≡ None
unfolding table_at
table_at-root_write-below layout words p g word h c e = grind (arith, common_steps, nat_tests, put-same, below_empty)

-- a walk through the gigabyte finds nothing afterwards
walk_below : (layout : Layout) (words : Words) (p g word : ℕ) → IsRootWrite layout words p g word → (n : ℕ) → n / 512 / 512 ≡ g → walk layout (put p g word words) p n ≡ Unmapped
unfolding walk_across
walk_below layout words p g word h n e =
    let new = put p g word words in
    let read : new p (n / 512 / 512) ≡ word = ap (new p) e ∙ put-same words p g word in
    let result : at_1 layout new new n (slot layout 1 (new p (n / 512 / 512))) ≡ Unmapped =
    elim h.clean [
      | inl none ↦ ap (at_1 layout new new n) (ap (slot layout 1) read ∙ none)
      | inr some ↦ grind (arith, common_steps, nat_tests, put-other, h.fresh, table_at-root layout words p, some.1, h.empty)
    ] in
    grind (arith, nat_tests, result)

-- every page is translated as before
pub walk-root_write : (layout : Layout) (words : Words) (p g word : ℕ) → IsRootWrite layout words p g word → (p' n : ℕ) → n < 2 ^ 27
    → walk layout (put p g word words) p' n ≡ walk layout words p' n
walk-root_write layout words p g word h p' n small =
    let new = put p g word words in
    let apart : (p' ≡ p → n / 512 / 512 ≡ g → ⊥) → walk layout new p' n ≡ walk layout words p' n = λ other.
    walk-same layout words new new new p' n (λ inside. record {
      first = put-other words p g word p' (index_1 n) other;
      second = λ j at_j. root-second layout words p g word h p' (index_1 n) j inside (omega arith) at_j (index_2 n);
      third = λ k at_k. other_table layout words (Root p) (Chunk p' (n / 512)) p k g word h.forest h.partition (inside, omega arith) (table_at-root layout words p) at_k (λ e. cc) (index_3 n);
    }) in
    elim (cases_eq p' p) [
      | inl e_p ↦ elim (cases_eq (n / 512 / 512) g) [
        | inl e_g ↦ rw e_p (walk_below layout words p g word h n e_g ∙ sym (h.unmapped n small e_g))
        | inr e_g ↦ apart (λ _ f. e_g f)
      ]
      | inr e_p ↦ apart (λ f _. e_p f)
    ]
