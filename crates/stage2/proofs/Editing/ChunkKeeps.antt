-- An edit of a chunk, whichever of its kinds, keeps the tables orderly.
use Rattle.std.proofs.Common.{◌≡◌, ◌≢◌, ℕ, ◌+◌, ◌*◌, ◌/◌, ◌%◌, ◌^◌, ◌<◌, is_some, Some, length, refl, arith, ap, ap₂, sym, ◌∙◌, inr}
use Rattle.stage2.proofs.Names.{nat_tests, View, Pages, Layout, slot, Empty, walk, walked, Place, Gigabyte, Chunk, table_at, IsPlace, IsTidy, is_mixed, IsOrderly, answers, answer_of, level_at, Redoes, common_steps}
use Rattle.stage2.proofs.Tree.RootWrites.{is_chunk, is_pair}
use Rattle.stage2.proofs.Editing.ChunkEdit.{IsChunkEdit, table-other, walk-apart}
use Rattle.stage2.proofs.Counting.Needs.{mixed-same}
use Rattle.stage2.proofs.Editing.Trades.{Trade, traded}

pub answer-walked : (n : ℕ) (a : View) → answer_of (walked n a) ≡ a
answer-walked n a = grind (arith, common_steps, nat_tests)

-- what the edit has to show: which words it wrote, what became of the chunk's table, and what the chunk's pages answer
pub record IsRedone (layout : Layout) (row c j : ℕ) (answer : ℕ → View) (old new : Pages) : Type 0 where
  pub orderly : IsOrderly layout old
  pub edit : IsChunkEdit layout row c j old.words new.words
  pub ids : new.ids ≡ old.ids
  pub quotas : new.quotas ≡ old.quotas
  pub trade : Trade layout row (Chunk row c) old new
  pub here : (n : ℕ) → n < 2 ^ 27 → n / 512 ≡ c → walk layout new.words row n ≡ walked n (answer n)
  pub mixed : is_some (table_at layout new.words (Chunk row c)) ≡ is_mixed answer c
  pub clean_entry : slot layout 2 (new.words j (c % 512)) ≡ Empty → new.words j (c % 512) ≡ 0
  pub clean_table : (k i : ℕ) → table_at layout new.words (Chunk row c) ≡ Some k → i < 512 → slot layout 3 (new.words k i) ≡ Empty → new.words k i ≡ 0

module _ (layout : Layout) (row c j : ℕ) (answer : ℕ → View) (old new : Pages) (h : IsRedone layout row c j answer old new) where
  apart : (r n : ℕ) → n < 2 ^ 27 → (r ≡ row → n / 512 ≡ c → ⊥) → walk layout new.words r n ≡ walk layout old.words r n
  apart = walk-apart layout row c j old.words new.words new.words new.words h.edit h.edit h.edit

  tidy : (r n : ℕ) → r < length layout.ids → n < 2 ^ 27 → IsTidy n (walk layout new.words r n)
  tidy r n inside small = grind (arith, common_steps, nat_tests, is_pair row c r (n / 512), apart)

  mixed_other : (r d : ℕ) → r < length layout.ids → d < 262144 → Chunk r d ≢ Chunk row c → is_some (table_at layout new.words (Chunk r d)) ≡ is_mixed (answers layout new.words r) d
  mixed_other r d inside below differs =
      ap (λ o. is_some o) (table-other layout row c j old.words new.words h.edit (Chunk r d) (inside, below) differs)
      ∙ h.orderly.mixed r d inside below
      ∙ sym (mixed-same (answers layout old.words r) (answers layout new.words r) d (λ i small. ap answer_of (apart r (512 * d + i) (omega arith) (λ e f. differs (ap₂ Chunk e (omega (arith, small, f)))))))

  mixed : (r d : ℕ) → r < length layout.ids → d < 262144 → is_some (table_at layout new.words (Chunk r d)) ≡ is_mixed (answers layout new.words r) d
  mixed r d inside below = grind (arith, common_steps, nat_tests, is_chunk, mixed-same, answer-walked, mixed_other)

  clean : (a : Place) (q i : ℕ) → IsPlace layout a → table_at layout new.words a ≡ Some q → i < 512 → slot layout (level_at a) (new.words q i) ≡ Empty → new.words q i ≡ 0
  clean a q i inside at below none =
      let place : IsPlace layout (Gigabyte row (c / 512)) = (h.edit.partition, omega (arith, h.edit.chunk)) in
      grind (arith, common_steps, nat_tests, is_chunk a row c, is_pair j (c % 512) q i, h.clean_table q i, h.clean_entry, table-other layout row c j old.words new.words h.edit a inside, h.orderly.forest a (Gigabyte row (c / 512)) j inside place, h.edit.second, h.edit.same a q i inside, h.orderly.clean a q i inside)

  orderly : IsOrderly layout new
  orderly =
      traded (record {
        orderly = h.orderly;
        at = (h.edit.partition, h.edit.chunk);
        partition = h.edit.partition;
        of_row = inr (c, refl);
        is_x = λ b. is_chunk b row c;
        kept = λ b inside other. table-other layout row c j old.words new.words h.edit b inside other;
        quotas = h.quotas;
        trade = h.trade;
      }) h.ids clean tidy mixed

  pub redone : Redoes layout row c answer old new
  redone = grind (arith, common_steps, nat_tests, orderly, is_pair, apart, table-other)
