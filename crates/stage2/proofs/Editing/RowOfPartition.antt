-- The edit of a row is one of its partition.
use Rattle.std.proofs.Common.{◌≡◌, ℕ, ◌+◌, ◌-◌, ◌^◌, ◌<◌, ◌≤◌, true, false, ◌&&◌, cond, eqb, List, length, ap, ◌∙◌, arith, inl, inr}
use Rattle.stage2.proofs.Names.{PageRun, covers, View, page_count, Pages, InShare, used_by, share_start, row_quota, Layout, walked, translation, IsOrderly, IsCanonical, answers, edited, EditsRow, nat_tests, common_steps, cases_Bool}
use Rattle.pool.proofs.Count.{count_below-none, count_below-some}
use Rattle.stage2.proofs.Tree.Rows.{IsRow, same_row}
use Rattle.stage2.proofs.Editing.FourChunkEdits.{tidy-answer}
use Rattle.stage2.proofs.Counting.Needs.{mixed-none, reached-none}
use Rattle.stage2.proofs.Tree.EmptyTables.{no_gigabyte, no_chunk, unmapped, sound_zero}

pub edited-walks : (layout : Layout) (p row : ℕ) (runs : List PageRun) (access : View) (old new : Pages) → IsRow layout.ids p row → IsOrderly layout old → EditsRow layout row (edited runs access (answers layout old.words row)) old new
    → (q n : ℕ) → n < 2 ^ 27 → translation layout new.words q n ≡ cond (eqb q p && covers runs n) (walked n access) (translation layout old.words q n)
edited-walks layout p row runs access old new is orderly h q n small = grind (arith, common_steps, nat_tests, same_row, tidy-answer)

-- ---- tables that map nothing

pub canonical_zero : (layout : Layout) (m : Pages) → ((page index : ℕ) → m.words page index ≡ 0) → layout.ids ≡ m.ids → layout.quotas ≡ m.quotas → layout.pages ≡ page_count m.quotas → length layout.ids ≡ length m.quotas → layout.base + layout.pages ≤ 2 ^ 27
    → ((row : ℕ) → row < length m.quotas → m.taken row ≡ true) → ((row q : ℕ) → InShare m.quotas row q → m.taken q ≡ false) → ((row : ℕ) → used_by m row ≡ 0) → IsCanonical layout m
canonical_zero layout m zeros ids quotas pages rows fits roots free none = grind (arith, common_steps, nat_tests, sound_zero layout m zeros ids pages rows fits roots, count_below-none, no_gigabyte, no_chunk, mixed-none, unmapped, reached-none)

-- where no page of a share is used, none is taken
pub not-taken : (m : Pages) (row q : ℕ) → InShare m.quotas row q → used_by m row ≡ 0 → m.taken q ≡ false
not-taken m row q inside none = elim (cases_Bool (m.taken q)) [
  | inl t ↦
      let at : share_start m.quotas row + (q - share_start m.quotas row) ≡ q = omega (arith, inside.from) in
      absurd (omega (arith, count_below-some (λ k. m.taken (share_start m.quotas row + k)) (row_quota m.quotas row) (q - share_start m.quotas row) (omega (arith, inside.from, inside.to)) (ap m.taken at ∙ t), none))
  | inr f ↦ f
]
