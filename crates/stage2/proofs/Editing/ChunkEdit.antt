-- An edit of one chunk: the level 2 word of the chunk, its level 3 table, and pages that hang nowhere.
use Rattle.stage2.proofs.Names.{Words, Layout, slot, index_1, index_3, at_2, walk, walk_across, Place, Root, Gigabyte, Chunk, next_page, table_at, IsPlace, IsForest, nat_tests, common_steps, ◌≡◌, ◌≢◌, ℕ, ◌/◌, ◌%◌, ◌^◌, ◌<◌, Some, length, arith, ap, ◌∙◌}
use Rattle.stage2.proofs.Tree.WalkFrame.{walk-same, walk-gigabyte, table_at-gigabyte, table_at-chunk, table_at-chunk_in, table_at-root}

-- the tables of all other places keep their words, but for the chunk's own word in its level 2 table j
pub record IsChunkEdit (layout : Layout) (row c j : ℕ) (old new : Words) : Type 0 where
  pub forest : IsForest layout old
  pub partition : row < length layout.ids
  pub chunk : c < 262144
  pub second : table_at layout old (Gigabyte row (c / 512)) ≡ Some j
  pub same : (b : Place) (q i : ℕ) → IsPlace layout b → b ≢ Chunk row c → table_at layout old b ≡ Some q → (q ≡ j → i ≡ c % 512 → ⊥) → new q i ≡ old q i

module _ (layout : Layout) (row c j : ℕ) (old new : Words) (h : IsChunkEdit layout row c j old new) where
  place : IsPlace layout (Gigabyte row (c / 512))
  place = (h.partition, omega (arith, h.chunk))

  pub root-kept : (r x : ℕ) → r < length layout.ids → new r x ≡ old r x
  root-kept r x inside = h.same (Root r) r x inside (λ e. cc) (table_at-root layout old r) (λ e _. let f : Root r ≡ Gigabyte row (c / 512) = h.forest (Root r) (Gigabyte row (c / 512)) j inside place (table_at-root layout old r ∙ ap Some e) h.second in cc)

  pub second-kept : (r d k : ℕ) → r < length layout.ids → d < 262144 → (r ≡ row → d ≡ c → ⊥) → table_at layout old (Gigabyte r (d / 512)) ≡ Some k → new k (d % 512) ≡ old k (d % 512)
  second-kept r d k inside below other at =
      h.same (Gigabyte r (d / 512)) k (d % 512) (inside, omega arith) (λ e. cc) at (λ e i.
      let f : Gigabyte r (d / 512) ≡ Gigabyte row (c / 512) = h.forest (Gigabyte r (d / 512)) (Gigabyte row (c / 512)) j (inside, omega arith) place (at ∙ ap Some e) h.second in
      let e_r : r ≡ row = cc in
      let e_g : d / 512 ≡ c / 512 = cc in
      other e_r (omega arith))

  pub third-kept : (r d k i : ℕ) → r < length layout.ids → d < 262144 → (r ≡ row → d ≡ c → ⊥) → table_at layout old (Chunk r d) ≡ Some k → new k i ≡ old k i
  third-kept r d k i inside below other at =
      h.same (Chunk r d) k i (inside, below) (λ e. let e_r : r ≡ row = cc in let e_d : d ≡ c = cc in other e_r e_d) at
      (λ e _. let f : Chunk r d ≡ Gigabyte row (c / 512) = h.forest (Chunk r d) (Gigabyte row (c / 512)) j (inside, below) place (at ∙ ap Some e) h.second in cc)

  -- all but the chunk's table hang where they did
  pub table-other : (b : Place) → IsPlace layout b → b ≢ Chunk row c → table_at layout new b ≡ table_at layout old b
  table-other b inside other = grind (arith, common_steps, nat_tests, table_at-root, table_at-gigabyte, root-kept, table_at-chunk, second-kept)

  pub second-stays : table_at layout new (Gigabyte row (c / 512)) ≡ Some j
  second-stays = table-other (Gigabyte row (c / 512)) place (λ e. cc) ∙ h.second

  -- the chunk's table is the one that its word points at
  pub table-here : table_at layout new (Chunk row c) ≡ next_page (slot layout 2 (new j (c % 512)))
  table-here = table_at-chunk_in layout new row c j second-stays

  -- the chunk's pages are translated as its word says
  pub walk-here : (n : ℕ) → n / 512 ≡ c → walk layout new row n ≡ at_2 layout new n (slot layout 2 (new j (c % 512)))
  walk-here n e = grind (arith, common_steps, nat_tests, second-stays, walk-gigabyte)

-- every other page is translated as before, also by a walk that reads its words from three such edits
pub walk-apart : (layout : Layout) (row c j : ℕ) (old new1 new2 new3 : Words) → IsChunkEdit layout row c j old new1 → IsChunkEdit layout row c j old new2 → IsChunkEdit layout row c j old new3
    → (r n : ℕ) → n < 2 ^ 27 → (r ≡ row → n / 512 ≡ c → ⊥) → walk_across layout new1 new2 new3 r n ≡ walk layout old r n
walk-apart layout row c j old new1 new2 new3 h1 h2 h3 r n small other =
    walk-same layout old new1 new2 new3 r n (λ inside. record {
      first = root-kept layout row c j old new1 h1 r (index_1 n) inside;
      second = λ k at. second-kept layout row c j old new2 h2 r (n / 512) k inside (omega arith) other at;
      third = λ k at. third-kept layout row c j old new3 h3 r (n / 512) k (index_3 n) inside (omega arith) other at;
    })
