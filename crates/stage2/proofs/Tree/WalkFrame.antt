-- Words that are written leave each walk, and the place of each table, that do not read them.
use Rattle.std.proofs.Common.{◌≡◌, ◌≢◌, ℕ, ◌+◌, ◌*◌, ◌/◌, ◌%◌, ◌^◌, ◌<◌, Some, length, refl, arith, ap, sym, ◌∙◌}
use Rattle.stage2.proofs.Names.{nat_tests, Words, put, Layout, Slot, slot, index_1, index_2, index_3, at_1, at_2, at_3, walk, walk_across, Place, Root, Gigabyte, Chunk, next_page, chunk_table, table_at, IsPlace, IsForest, common_steps}

pub put-other : (words : Words) (page index word q i : ℕ) → (q ≡ page → i ≡ index → ⊥) → put page index word words q i ≡ words q i
unfolding put
put-other words page index word q i apart = grind (arith, nat_tests, apart)

pub put-same : (words : Words) (page index word : ℕ) → put page index word words page index ≡ word
unfolding put
put-same words page index word = grind (arith, nat_tests)

-- the words that a walk reads are those of `words`
pub record ReadsAs (layout : Layout) (words w1 w2 w3 : Words) (p n : ℕ) : Type 0 where
  pub first : w1 p (index_1 n) ≡ words p (index_1 n)
  pub second : (j : ℕ) → table_at layout words (Gigabyte p (index_1 n)) ≡ Some j → w2 j (index_2 n) ≡ words j (index_2 n)
  pub third : (k : ℕ) → table_at layout words (Chunk p (n / 512)) ≡ Some k → w3 k (index_3 n) ≡ words k (index_3 n)

at_1-same : (layout : Layout) (words second third : Words) (p n : ℕ) (s : Slot) → slot layout 1 (words p (index_1 n)) ≡ s
    → ((j : ℕ) → table_at layout words (Gigabyte p (index_1 n)) ≡ Some j → second j (index_2 n) ≡ words j (index_2 n))
    → ((k : ℕ) → table_at layout words (Chunk p (n / 512)) ≡ Some k → third k (index_3 n) ≡ words k (index_3 n))
    → at_1 layout second third n s ≡ at_1 layout words words n s
unfolding table_at
at_1-same layout words second third p n s e g h = grind (arith, common_steps, nat_tests)

-- a walk that reads the same words gives the same
pub walk-same : (layout : Layout) (words first second third : Words) (p n : ℕ) → (p < length layout.ids → ReadsAs layout words first second third p n)
    → walk_across layout first second third p n ≡ walk layout words p n
unfolding walk_across
walk-same layout words first second third p n reads = grind (arith, common_steps, nat_tests, at_1-same)

-- the words that decide which table hangs at a place are those of `words`
pub record HangsAs (layout : Layout) (words new : Words) (p c : ℕ) : Type 0 where
  pub first : new p (c / 512) ≡ words p (c / 512)
  pub second : (j : ℕ) → table_at layout words (Gigabyte p (c / 512)) ≡ Some j → new j (c % 512) ≡ words j (c % 512)

pub table_at-gigabyte : (layout : Layout) (words new : Words) (p g : ℕ) → new p g ≡ words p g → table_at layout new (Gigabyte p g) ≡ table_at layout words (Gigabyte p g)
unfolding table_at
table_at-gigabyte layout words new p g e = ap (λ w. next_page (slot layout 1 w)) e

pub table_at-chunk : (layout : Layout) (words new : Words) (p c : ℕ) → HangsAs layout words new p c → table_at layout new (Chunk p c) ≡ table_at layout words (Chunk p c)
unfolding table_at
table_at-chunk layout words new p c h = grind (arith, common_steps, nat_tests)

pub table_at-root : (layout : Layout) (words : Words) (p : ℕ) → table_at layout words (Root p) ≡ Some p
unfolding table_at
table_at-root layout words p = refl

-- a write into the table of one place leaves the words of the tables of all other places
pub other_table : (layout : Layout) (words : Words) (a b : Place) (q r i word : ℕ) → IsForest layout words → IsPlace layout a → IsPlace layout b
    → table_at layout words a ≡ Some q → table_at layout words b ≡ Some r → a ≢ b → (x : ℕ) → put q i word words r x ≡ words r x
other_table layout words a b q r i word forest in_a in_b at_a at_b differ x = grind (arith, common_steps, nat_tests, put-other)

-- ---- a write into a level 3 table

pub record IsLevel3Write (layout : Layout) (words : Words) (p c q : ℕ) : Type 0 where
  pub forest : IsForest layout words
  pub partition : p < length layout.ids
  pub chunk : c < 262144
  pub table : table_at layout words (Chunk p c) ≡ Some q

level_3-root : (layout : Layout) (words : Words) (p c q i word : ℕ) → IsLevel3Write layout words p c q → (p' : ℕ) → p' < length layout.ids → (x : ℕ) → put q i word words p' x ≡ words p' x
level_3-root layout words p c q i word h p' inside x =
    other_table layout words (Chunk p c) (Root p') q p' i word h.forest (h.partition, h.chunk) inside h.table (table_at-root layout words p') (λ e. cc) x

level_3-second : (layout : Layout) (words : Words) (p c q i word : ℕ) → IsLevel3Write layout words p c q → (p' g j : ℕ) → p' < length layout.ids → g < 512
    → table_at layout words (Gigabyte p' g) ≡ Some j → (x : ℕ) → put q i word words j x ≡ words j x
level_3-second layout words p c q i word h p' g j inside below at_j x =
    other_table layout words (Chunk p c) (Gigabyte p' g) q j i word h.forest (h.partition, h.chunk) (inside, below) h.table at_j (λ e. cc) x

-- every table hangs where it did
pub table_at-level_3 : (layout : Layout) (words : Words) (p c q i word : ℕ) → IsLevel3Write layout words p c q → (b : Place) → IsPlace layout b
    → table_at layout (put q i word words) b ≡ table_at layout words b
table_at-level_3 layout words p c q i word h b inside = grind (arith, common_steps, nat_tests, table_at-root, table_at-gigabyte, level_3-root, table_at-chunk, level_3-second)

-- every other page is translated as before
pub walk-level_3-other : (layout : Layout) (words : Words) (p c q i word : ℕ) → IsLevel3Write layout words p c q → (p' n : ℕ) → n < 2 ^ 27 → (p' ≡ p → n ≡ 512 * c + i → ⊥)
    → walk layout (put q i word words) p' n ≡ walk layout words p' n
walk-level_3-other layout words p c q i word h p' n small other =
    let new = put q i word words in
    walk-same layout words new new new p' n (λ inside. record {
      first = level_3-root layout words p c q i word h p' inside (index_1 n);
      second = λ j at_j. level_3-second layout words p c q i word h p' (index_1 n) j inside (omega arith) at_j (index_2 n);
      third = λ k at_k. grind (arith, common_steps, nat_tests, put-other, h.forest);
    })

-- a walk through the table of its chunk
pub walk-chunk : (layout : Layout) (words : Words) (p n q : ℕ) → p < length layout.ids → table_at layout words (Chunk p (n / 512)) ≡ Some q
    → walk layout words p n ≡ at_3 (slot layout 3 (words q (index_3 n)))
unfolding walk_across table_at
walk-chunk layout words p n q inside table = grind (arith, common_steps, nat_tests)

-- of a page by its index
pub page-walk : (layout : Layout) (words : Words) (p c i q : ℕ) → p < length layout.ids → i < 512 → table_at layout words (Chunk p c) ≡ Some q → walk layout words p (512 * c + i) ≡ at_3 (slot layout 3 (words q i))
page-walk layout words p c i q inside small table =
    let chunk : (512 * c + i) / 512 ≡ c = omega (arith, small) in
    let third : (512 * c + i) % 512 ≡ i = omega (arith, small) in
    walk-chunk layout words p (512 * c + i) q inside (ap (λ x. table_at layout words (Chunk p x)) chunk ∙ table) ∙ ap (λ x. at_3 (slot layout 3 (words q x))) third

-- a walk through the table of its gigabyte
pub walk-gigabyte : (layout : Layout) (words : Words) (p n j : ℕ) → p < length layout.ids → table_at layout words (Gigabyte p (index_1 n)) ≡ Some j
    → walk layout words p n ≡ at_2 layout words n (slot layout 2 (words j (index_2 n)))
unfolding walk_across table_at
walk-gigabyte layout words p n j inside table = grind (arith, common_steps, nat_tests)

-- the page itself is translated as the new word says
pub walk-level_3 : (layout : Layout) (words : Words) (p c q i word : ℕ) → IsLevel3Write layout words p c q → i < 512
    → walk layout (put q i word words) p (512 * c + i) ≡ at_3 (slot layout 3 word)
walk-level_3 layout words p c q i word h small =
    page-walk layout (put q i word words) p c i q h.partition small (table_at-level_3 layout words p c q i word h (Chunk p c) (h.partition, h.chunk) ∙ h.table)
    ∙ ap (λ w. at_3 (slot layout 3 w)) (put-same words q i word)

-- ---- a write into a page where no table hangs

abbrev pub IsUnheld : Layout → Words → ℕ → Type 0
IsUnheld layout words q = (a : Place) → IsPlace layout a → table_at layout words a ≡ Some q → ⊥

-- words that differ in one page alone
abbrev pub AgreeOutside : ℕ → Words → Words → Type 0
AgreeOutside q words new = (r x : ℕ) → r ≢ q → new r x ≡ words r x

pub table_at-outside : (layout : Layout) (words new : Words) (q : ℕ) → IsUnheld layout words q → AgreeOutside q words new → (b : Place) → IsPlace layout b → table_at layout new b ≡ table_at layout words b
table_at-outside layout words new q h agree (Root p) inside = table_at-root layout new p ∙ sym (table_at-root layout words p)
table_at-outside layout words new q h agree (Gigabyte p g) inside = grind (arith, common_steps, nat_tests, table_at-gigabyte, table_at-root layout words p)
table_at-outside layout words new q h agree (Chunk p c) inside = grind (arith, common_steps, nat_tests, table_at-chunk, table_at-root layout words p, inside.0, inside.1)

pub walk-outside : (layout : Layout) (words new : Words) (q : ℕ) → IsUnheld layout words q → AgreeOutside q words new → (p n : ℕ) → n < 2 ^ 27 → walk layout new p n ≡ walk layout words p n
walk-outside layout words new q h agree p n small =
    walk-same layout words new new new p n (λ inside. record {
      first = agree p (index_1 n) (λ same. h (Root p) inside (table_at-root layout words p ∙ ap Some same));
      second = λ j at_j. agree j (index_2 n) (λ same. h (Gigabyte p (index_1 n)) (inside, omega arith) (at_j ∙ ap Some same));
      third = λ k at_k. agree k (index_3 n) (λ same. h (Chunk p (n / 512)) (inside, omega arith) (at_k ∙ ap Some same));
    })

put-outside : (words : Words) (q i word : ℕ) → AgreeOutside q words (put q i word words)
put-outside words q i word r x apart = put-other words q i word r x (λ same _. apart same)

pub table_at-unheld : (layout : Layout) (words : Words) (q i word : ℕ) → IsUnheld layout words q → (b : Place) → IsPlace layout b → table_at layout (put q i word words) b ≡ table_at layout words b
table_at-unheld layout words q i word h b inside = table_at-outside layout words (put q i word words) q h (put-outside words q i word) b inside

pub walk-unheld : (layout : Layout) (words : Words) (q i word : ℕ) → IsUnheld layout words q → (p n : ℕ) → n < 2 ^ 27 → walk layout (put q i word words) p n ≡ walk layout words p n
walk-unheld layout words q i word h p n small = walk-outside layout words (put q i word words) q h (put-outside words q i word) p n small

-- ---- a write into a level 2 table

pub record IsLevel2Write (layout : Layout) (words : Words) (p g j i word : ℕ) : Type 0 where
  pub forest : IsForest layout words
  pub partition : p < length layout.ids
  pub gigabyte : g < 512
  pub index : i < 512
  pub table : table_at layout words (Gigabyte p g) ≡ Some j
  pub fresh : (k : ℕ) → next_page (slot layout 2 word) ≡ Some k → IsUnheld layout words k

level_2-root : (layout : Layout) (words : Words) (p g j i word : ℕ) → IsLevel2Write layout words p g j i word → (p' : ℕ) → p' < length layout.ids → (x : ℕ) → put j i word words p' x ≡ words p' x
level_2-root layout words p g j i word h p' inside x =
    other_table layout words (Gigabyte p g) (Root p') j p' i word h.forest (h.partition, h.gigabyte) inside h.table (table_at-root layout words p') (λ e. cc) x

level_2-second : (layout : Layout) (words : Words) (p g j i word : ℕ) → IsLevel2Write layout words p g j i word → (p' c j' : ℕ) → p' < length layout.ids → c < 262144
    → (p' ≡ p → c ≡ 512 * g + i → ⊥) → table_at layout words (Gigabyte p' (c / 512)) ≡ Some j' → put j i word words j' (c % 512) ≡ words j' (c % 512)
level_2-second layout words p g j i word h p' c j' inside below other at_j = grind (arith, common_steps, nat_tests, put-other)

-- all but the table of the chunk hang where they did
pub table_at-level_2-other : (layout : Layout) (words : Words) (p g j i word : ℕ) → IsLevel2Write layout words p g j i word → (b : Place) → IsPlace layout b → b ≢ Chunk p (512 * g + i)
    → table_at layout (put j i word words) b ≡ table_at layout words b
table_at-level_2-other layout words p g j i word h b inside other = grind (arith, common_steps, nat_tests, table_at-root, table_at-gigabyte, level_2-root, table_at-chunk, level_2-second)

pub table_at-chunk_in : (layout : Layout) (words : Words) (p c j : ℕ) → table_at layout words (Gigabyte p (c / 512)) ≡ Some j → table_at layout words (Chunk p c) ≡ next_page (slot layout 2 (words j (c % 512)))
unfolding table_at
table_at-chunk_in layout words p c j e = ap (chunk_table layout words c) e

-- of a chunk by its index
pub chunk-table : (layout : Layout) (words : Words) (p g i j : ℕ) → i < 512 → table_at layout words (Gigabyte p g) ≡ Some j → table_at layout words (Chunk p (512 * g + i)) ≡ next_page (slot layout 2 (words j i))
chunk-table layout words p g i j small table =
    let gigabyte : (512 * g + i) / 512 ≡ g = omega (arith, small) in
    let index : (512 * g + i) % 512 ≡ i = omega (arith, small) in
    table_at-chunk_in layout words p (512 * g + i) j (ap (λ x. table_at layout words (Gigabyte p x)) gigabyte ∙ table) ∙ ap (λ x. next_page (slot layout 2 (words j x))) index

-- the table of the chunk is the one that the new word points at
pub table_at-level_2 : (layout : Layout) (words : Words) (p g j i word : ℕ) → IsLevel2Write layout words p g j i word
    → table_at layout (put j i word words) (Chunk p (512 * g + i)) ≡ next_page (slot layout 2 word)
table_at-level_2 layout words p g j i word h =
    chunk-table layout (put j i word words) p g i j h.index (table_at-level_2-other layout words p g j i word h (Gigabyte p g) (h.partition, h.gigabyte) (λ e. cc) ∙ h.table)
    ∙ ap (λ w. next_page (slot layout 2 w)) (put-same words j i word)

-- pages of other chunks are translated as before
pub walk-level_2-other : (layout : Layout) (words : Words) (p g j i word : ℕ) → IsLevel2Write layout words p g j i word → (p' n : ℕ) → n < 2 ^ 27 → (p' ≡ p → n / 512 ≡ 512 * g + i → ⊥)
    → walk layout (put j i word words) p' n ≡ walk layout words p' n
walk-level_2-other layout words p g j i word h p' n small other =
    let new = put j i word words in
    walk-same layout words new new new p' n (λ inside. record {
      first = level_2-root layout words p g j i word h p' inside (index_1 n);
      second = λ j' at_j. level_2-second layout words p g j i word h p' (n / 512) j' inside (omega arith) other at_j;
      third = λ k at_k. other_table layout words (Gigabyte p g) (Chunk p' (n / 512)) j k i word h.forest (h.partition, h.gigabyte) (inside, omega arith) h.table at_k (λ e. cc) (index_3 n);
    })

-- pages of the chunk are translated as the new word says
pub walk-level_2 : (layout : Layout) (words : Words) (p g j i word : ℕ) → IsLevel2Write layout words p g j i word → (n : ℕ) → n / 512 ≡ 512 * g + i
    → walk layout (put j i word words) p n ≡ at_2 layout (put j i word words) n (slot layout 2 word)
walk-level_2 layout words p g j i word h n chunk =
    let new = put j i word words in
    let gigabyte : n / 512 / 512 ≡ g = omega (arith, h.index) in
    let index : n / 512 % 512 ≡ i = omega (arith, h.index) in
    let here : table_at layout new (Gigabyte p (n / 512 / 512)) ≡ Some j = rw gigabyte (table_at-level_2-other layout words p g j i word h (Gigabyte p g) (h.partition, h.gigabyte) (λ e. cc) ∙ h.table) in
    walk-gigabyte layout new p n j h.partition here ∙ ap (λ w. at_2 layout new n (slot layout 2 w)) (ap (new j) index ∙ put-same words j i word)
