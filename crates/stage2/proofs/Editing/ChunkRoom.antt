-- How many operations each of the four edits of a chunk makes, by the words that are there.
use Rattle.std.proofs.Common.{◌≡◌, ℕ, ◌+◌, ◌*◌, ◌/◌, ◌%◌, true, ◌||◌, cond, List, is_some, Some, None, arith, ap, ◌∙◌}
use Rattle.stage2.proofs.Names.{View, PageRun, covers, Pages, nonzero_in, edited, answers_in, IsOutcome, IsSite, part_count, pages_in, reached_in, table_operations, Layout, Slot, Next, slot, next_page, nat_tests, common_steps}
use Rattle.stage2.proofs.Counting.Needs.{mixed-none}
use Rattle.stage2.proofs.Counting.Operations.{kept, hung, dropped, reached-as}
use Rattle.stage2.proofs.Editing.FourChunkEdits.{entry-mixed, third-words}

module _ {layout : Layout} {row c j : ℕ} {m : Pages} (h : IsSite layout row c j m) (runs : List PageRun) (access : View) where
  abbrev view : ℕ → View
  view = answers_in layout row c j m

  -- the table is given back
  pub dropped-words : (answer : View) (k : ℕ) → slot layout 2 (m.words j (c % 512)) ≡ Next k → IsOutcome c (edited runs access (answers_in layout row c j m)) (Some answer)
      → table_operations runs access (answers_in layout row c j m) c ≡ cond (is_some answer) (nonzero_in m.words k) (pages_in runs c)
  dropped-words answer k table is = grind (arith, common_steps, nat_tests, dropped, entry-mixed, third-words)

  -- it stays
  pub kept-words : (k : ℕ) → slot layout 2 (m.words j (c % 512)) ≡ Next k → IsOutcome c (edited runs access (answers_in layout row c j m)) None
      → table_operations runs access (answers_in layout row c j m) c ≡ pages_in runs c + cond (is_some access) 0 (part_count c runs)
  kept-words k table is = kept runs access view c (entry-mixed h ∙ ap (λ (s : Slot). is_some (next_page s)) table) is

  -- one is hung
  module _ (before : View) (none : next_page (slot layout 2 (m.words j (c % 512))) ≡ None) (is : IsOutcome c (edited runs access (answers_in layout row c j m)) None)
      (all : (n : ℕ) → n / 512 ≡ c → answers_in layout row c j m n ≡ before) where
    pub hung-words : table_operations runs access (answers_in layout row c j m) c ≡ reached_in (edited runs access (λ n. before)) c
    hung-words =
        hung runs access view c (entry-mixed h ∙ ap (λ o. is_some o) none) is
        ∙ reached-as (edited runs access (λ n. before)) (edited runs access view) c (λ i lt. ap (λ a. cond (covers runs (512 * c + i)) access a) (all (512 * c + i) (omega (arith, lt))))

    -- of which some are reached
    pub hung-some : (is_some before || is_some access) ≡ true
    hung-some = grind (arith, common_steps, nat_tests, mixed-none)
