-- The entries of a tree of tables, one after another.
use Rattle.stage2.proofs.Names.{nat_tests, common_steps, option_map_or, entry_of, Words, Cursor, First, TableEntry, table_entries, table_in, with_chunks, tree_entries, left_in, left_of, arith, ◌≡◌, ℕ, [], ◌∷◌, Option, refl}
use Rattle.stage2.specs.declared.table_page.Level.TheVariants.{Second, Third}
use Rattle.stage2.specs.Reading.{with_pages}

module _ (base pages : ℕ) (words : Words) (root second third : Cursor) where
  -- a page
  pub third-next : (e : TableEntry) (new : Cursor) → left_in words third ≡ e ∷ left_in words new → left_of base pages words root second third ≡ e ∷ left_of base pages words root second new
  unfolding left_of
  third-next e new next = grind (arith, common_steps, nat_tests)

  -- an entry of a level 2 table, with the table below it
  pub second-next : (e : TableEntry) (new below : Cursor) → left_in words third ≡ [] → left_in words second ≡ e ∷ left_in words new → left_in words below ≡ option_map_or (λ k. table_entries Third e.first (words k)) (table_in base pages (entry_of 2 e.word)) [] → left_of base pages words root second third ≡ e ∷ left_of base pages words root new below
  unfolding left_of with_pages
  second-next e new below none next so = grind (arith, common_steps, nat_tests)

  -- and one of a root
  pub root-next : (e : TableEntry) (new below ended : Cursor) → left_in words third ≡ [] → left_in words second ≡ [] → left_in words root ≡ e ∷ left_in words new → left_in words ended ≡ [] → left_in words below ≡ option_map_or (λ j. table_entries Second e.first (words j)) (table_in base pages (entry_of 1 e.word)) [] → left_of base pages words root second third ≡ e ∷ left_of base pages words new below ended
  unfolding left_of with_chunks
  root-next e new below ended none empty next over so = grind (arith, common_steps, nat_tests)

  -- none
  pub none-next : left_in words third ≡ [] → left_in words second ≡ [] → left_in words root ≡ [] → left_of base pages words root second third ≡ []
  unfolding left_of
  none-next none empty over = rw (none, empty, over) refl

  -- before the first
  pub all-left : (top : Option ℕ) → left_in words third ≡ [] → left_in words second ≡ [] → left_in words root ≡ option_map_or (λ r. table_entries First 0 (words r)) top [] → left_of base pages words root second third ≡ option_map_or (λ r. tree_entries base pages words r) top []
  unfolding left_of tree_entries
  all-left top none empty is = grind (arith, common_steps, nat_tests)
