-- The four edits of a chunk.
use Rattle.std.proofs.Common.{◌≡◌, ◌≢◌, ℕ, ◌+◌, ◌*◌, ◌/◌, ◌%◌, ◌<◌, ◌==◌, true, false, not, List, [], is_some, Option, Some, None, refl, arith, ap, sym, ◌∙◌, ◌⊎◌, inl, inr}
use Rattle.stage2.proofs.Names.{PageRun, covers, View, page_count, entry_of, table_word_of, Words, Pages, nonzero_in, InShare, put, mark, with_put, with_mark, IsLowestFree, Walked, Layout, Slot, Empty, Next, Bad, slot, slot_from, at_2, at_3, walk, walked, Place, Root, Gigabyte, Chunk, next_page, table_at, IsPlace, IsTidy, entry_for, answer_of, answers, linked, edited, Redoes, Redoes_in, IsWordFor, planned, Writes, answers_at, IsOutcome, IsEntryFor, IsSite, IsGrowing, block_answer, is_mixed, reached_in, nat_tests, common_steps, Unmapped, cases_Bool}
use Rattle.pool.proofs.Shares.{share_inside}
use Rattle.stage2.proofs.Tree.WalkFrame.{put-other, put-same, walk-chunk, page-walk, walk-gigabyte, table_at-root, table_at-chunk_in}
use Rattle.stage2.proofs.Walkers.Level3Write.{at_3-word}
use Rattle.stage2.proofs.Tree.KnownWords.{second-known}
use Rattle.stage2.proofs.Tree.LinkTable.{slot-table}
use Rattle.pool.proofs.Count.{count_below-same}
use Rattle.stage2.proofs.Counting.Needs.{mixed-same}
use Rattle.stage2.proofs.Counting.Operations.{table-words, reached-as, plain-answer}
use Rattle.stage2.proofs.Editing.ChunkEdit.{IsChunkEdit, table-here, walk-here}
use Rattle.stage2.proofs.Editing.Trades.{Trade, Stay, Hang, Drop}
use Rattle.stage2.proofs.Editing.ChunkKeeps.{redone}

-- ---- words for an answer

-- the slot of a word that was written for an answer
pub slot-word : (layout : Layout) (level n word : ℕ) (answer : View) → entry_of level word ≡ entry_for n answer → slot layout level word ≡ slot_from layout (entry_for n answer)
unfolding slot
slot-word layout level n word answer e = ap (slot_from layout) e

answer-none : (layout : Layout) (n : ℕ) (answer : View) → slot_from layout (entry_for n answer) ≡ Empty → answer ≡ None
answer-none layout n answer e = grind (arith, common_steps, nat_tests)

pub no-table : (layout : Layout) (n : ℕ) (answer : View) → next_page (slot_from layout (entry_for n answer)) ≡ None
no-table layout n answer = grind (arith, common_steps, nat_tests)

pub at_2-block : (layout : Layout) (words : Words) (c n : ℕ) (answer : View) → n / 512 ≡ c → at_2 layout words n (slot_from layout (entry_for (512 * c) answer)) ≡ walked n answer
at_2-block layout words c n answer e = grind (arith, common_steps, nat_tests)

put-alike : (row g t : ℕ) (old new : Words) (q i : ℕ) → new q i ≡ old q i → put row g t new q i ≡ put row g t old q i
unfolding put
put-alike row g t old new q i e = rw e refl

pub tidy-answer : (n : ℕ) (w : Walked) → IsTidy n w → w ≡ walked n (answer_of w)
tidy-answer n w h = grind (arith, common_steps, nat_tests)

module _ {layout : Layout} {row c j : ℕ} {m : Pages} (h : IsSite layout row c j m) where
  abbrev pub old : Words
  old = (linked layout row (c / 512) j m).words

  pub in_gigabyte : IsPlace layout (Gigabyte row (c / 512))
  in_gigabyte = (h.partition, omega (arith, h.chunk))

  pub in_chunk : IsPlace layout (Chunk row c)
  in_chunk = (h.partition, h.chunk)

  -- a table that hangs, and is no root
  no_root : (b : Place) (q : ℕ) → IsPlace layout b → b ≢ Root row → table_at layout old b ≡ Some q → q ≢ row
  no_root b q inside differs at same = differs (h.orderly.forest b (Root row) q inside h.partition at (table_at-root layout old row ∙ ap Some (sym same)))

  -- the words of other pages than the root are seen as they are
  pub seen : (q i : ℕ) → q ≢ row → old q i ≡ m.words q i
  seen q i differs = put-other m.words row (c / 512) (table_word_of (layout.base + j)) q i (λ same _. differs same)

  pub second-seen : (i : ℕ) → old j i ≡ m.words j i
  second-seen i = seen j i (no_root (Gigabyte row (c / 512)) j in_gigabyte (λ e. cc) h.second)

  -- the chunk's word
  abbrev pub entry : Slot
  entry = slot layout 2 (m.words j (c % 512))

  -- it has a form of its level
  pub entry-known : entry ≢ Bad
  entry-known bad = second-known layout (linked layout row (c / 512) j m) h.orderly row (c / 512) (c % 512) j h.partition in_gigabyte.1 (omega arith) h.second (ap (slot layout 2) (second-seen (c % 512)) ∙ bad)

  pub table-entry : table_at layout old (Chunk row c) ≡ next_page entry
  table-entry = table_at-chunk_in layout old row c j h.second ∙ ap (λ w. next_page (slot layout 2 w)) (second-seen (c % 512))

  third-seen : (k i : ℕ) → table_at layout old (Chunk row c) ≡ Some k → old k i ≡ m.words k i
  third-seen k i at = seen k i (no_root (Chunk row c) k in_chunk (λ e. cc) at)

  pub walk-entry : (n : ℕ) → n / 512 ≡ c → walk layout old row n ≡ at_2 layout old n entry
  walk-entry n e = grind (arith, common_steps, nat_tests, h.second, walk-gigabyte layout old row n j h.partition, second-seen (c % 512))

  pub at_2-seen : (n : ℕ) (s : Slot) → next_page s ≡ table_at layout old (Chunk row c) → at_2 layout old n s ≡ at_2 layout m.words n s
  at_2-seen n s e = grind (arith, common_steps, nat_tests, third-seen)

  -- what the chunk's pages answer is read from its word on
  pub answers-entry : (n : ℕ) → n / 512 ≡ c → answers layout old row n ≡ answers_at layout m.words entry n
  answers-entry n e = ap answer_of (walk-entry n e ∙ at_2-seen n entry (sym table-entry))

  -- ---- what an edit comes to

  pub place-second : j ≢ row
  place-second = no_root (Gigabyte row (c / 512)) j in_gigabyte (λ e. cc) h.second

  -- the words that the edit leaves: those of tables that hang elsewhere, but for the chunk's own
  abbrev pub LeavesOthers : Pages → Type 0
  LeavesOthers new = (b : Place) (q i : ℕ) → IsPlace layout b → b ≢ Chunk row c → table_at layout old b ≡ Some q → (q ≡ j → i ≡ c % 512 → ⊥) → new.words q i ≡ m.words q i

  pub edit-seen : (new : Pages) → LeavesOthers new → IsChunkEdit layout row c j old (linked layout row (c / 512) j new).words
  edit-seen new leaves = record {
    forest = h.orderly.forest;
    partition = h.partition;
    chunk = h.chunk;
    second = h.second;
    same = λ b q i inside other at apart. put-alike row (c / 512) (table_word_of (layout.base + j)) m.words new.words q i (leaves b q i inside other at apart);
  }

  seen-so : (answer : ℕ → View) (new : Pages) → LeavesOthers new → Redoes layout row c answer (linked layout row (c / 512) j m) (linked layout row (c / 512) j new) → Redoes_in layout row c j answer m new
  seen-so answer new leaves redoes = record {
    redoes = redoes;
    root = λ i. leaves (Root row) row i h.partition (λ e. cc) (table_at-root layout old row) (λ same _. place-second (sym same));
  }

  pub seen-after : (new : Pages) (q i : ℕ) → q ≢ row → (linked layout row (c / 512) j new).words q i ≡ new.words q i
  seen-after new q i differs = put-other new.words row (c / 512) (table_word_of (layout.base + j)) q i (λ same _. differs same)

  -- what becomes of the table: there was none, or it is given back
  abbrev pub Given : Pages → Type 0
  Given new = ((next_page entry ≡ None) × (new.taken ≡ m.taken)) ⊎ ((k : ℕ) × (next_page entry ≡ Some k) × (new.taken ≡ mark k false m.taken))

  given : (new : Pages) → table_at layout (linked layout row (c / 512) j new).words (Chunk row c) ≡ None → Given new → Trade layout row (Chunk row c) (linked layout row (c / 512) j m) (linked layout row (c / 512) j new)
  given new none (inl t) = Stay (record { taken = t.1; table = none ∙ sym (table-entry ∙ t.0) })
  given new none (inr t) = Drop t.0 (record { was = table-entry ∙ t.1; now = none; taken = t.2 })

  -- the chunk is one block, or nothing
  pub blocked : (answer : ℕ → View) (one : View) (word : ℕ) (new : Pages) → new.ids ≡ m.ids → new.quotas ≡ m.quotas → LeavesOthers new → new.words j (c % 512) ≡ word → IsEntryFor c one word → Given new → IsOutcome c answer (Some one)
      → Redoes_in layout row c j answer m new
  blocked answer one word new ids quotas leaves read is trade outcome =
      let e = edit-seen new leaves in
      let words = (linked layout row (c / 512) j new).words in
      let now : words j (c % 512) ≡ word = seen-after new j (c % 512) place-second ∙ read in
      let is_slot : slot layout 2 (words j (c % 512)) ≡ slot_from layout (entry_for (512 * c) one) = ap (slot layout 2) now ∙ slot-word layout 2 (512 * c) word one is.entry in
      let none : table_at layout words (Chunk row c) ≡ None = table-here layout row c j old words e ∙ ap next_page is_slot ∙ no-table layout (512 * c) one in
      seen-so answer new leaves (redone layout row c j answer (linked layout row (c / 512) j m) (linked layout row (c / 512) j new) (record {
        orderly = h.orderly;
        edit = e;
        ids = ids;
        quotas = quotas;
        trade = given new none trade;
        here = λ n small at. walk-here layout row c j old words e n at ∙ ap (at_2 layout words n) is_slot ∙ at_2-block layout words c n one at ∙ ap (walked n) (sym (outcome.same one refl n at));
        mixed = ap (λ o. is_some o) none ∙ outcome.mixed;
        clean_entry = λ empty. now ∙ is.zero (answer-none layout (512 * c) one (sym is_slot ∙ empty));
        clean_table = λ k i at small empty. absurd (cc);
      }))

  -- what becomes of the table: it stays, or page k is the new one
  abbrev pub Held : Pages → ℕ → Type 0
  Held new k = ((next_page entry ≡ Some k) × (new.taken ≡ m.taken)) ⊎ ((next_page entry ≡ None) × InShare m.quotas row k × (m.taken k ≡ false) × (new.taken ≡ mark k true m.taken))

  held : (new : Pages) (k : ℕ) → table_at layout (linked layout row (c / 512) j new).words (Chunk row c) ≡ Some k → Held new k → Trade layout row (Chunk row c) (linked layout row (c / 512) j m) (linked layout row (c / 512) j new)
  held new k some (inl t) = Stay (record { taken = t.1; table = some ∙ sym (table-entry ∙ t.0) })
  held new k some (inr t) = Hang k (record { inside = t.1; free = t.2; none = table-entry ∙ t.0; now = some; taken = t.3 })

  -- a level 3 word that stands for an answer
  abbrev pub Stands : (ℕ → View) → ℕ → Pages → ℕ → Type 0
  Stands answer k new i = (at_3 (slot layout 3 (new.words k i)) ≡ walked (512 * c + i) (answer (512 * c + i))) × (slot layout 3 (new.words k i) ≡ Empty → new.words k i ≡ 0)

  -- as one does that was written for it
  stand : (answer : ℕ → View) (k : ℕ) (new : Pages) (i : ℕ) (x : View) → IsWordFor (512 * c + i) x (new.words k i) → answer (512 * c + i) ≡ x → Stands answer k new i
  stand answer k new i x is same = (
    at_3-word layout (512 * c + i) (new.words k i) x is.entry ∙ ap (walked (512 * c + i)) (sym same),
    λ empty. is.zero (answer-none layout (512 * c + i) x (sym (slot-word layout 3 (512 * c + i) (new.words k i) x is.entry) ∙ empty)),
  )

  -- the chunk has the table k
  pub tabled : (answer : ℕ → View) (k : ℕ) (new : Pages) → new.ids ≡ m.ids → new.quotas ≡ m.quotas → LeavesOthers new → slot layout 2 (new.words j (c % 512)) ≡ Next k → k ≢ row → ((i : ℕ) → i < 512 → Stands answer k new i) → Held new k → IsOutcome c answer None
      → Redoes_in layout row c j answer m new
  tabled answer k new ids quotas leaves read differs stands trade outcome =
      let e = edit-seen new leaves in
      let words = (linked layout row (c / 512) j new).words in
      let is_slot : slot layout 2 (words j (c % 512)) ≡ Next k = ap (slot layout 2) (seen-after new j (c % 512) place-second) ∙ read in
      let some : table_at layout words (Chunk row c) ≡ Some k = table-here layout row c j old words e ∙ ap next_page is_slot in
      seen-so answer new leaves (redone layout row c j answer (linked layout row (c / 512) j m) (linked layout row (c / 512) j new) (record {
        orderly = h.orderly;
        edit = e;
        ids = ids;
        quotas = quotas;
        trade = held new k some trade;
        here = λ n small at. grind (arith, common_steps, nat_tests, stands, walk-here layout row c j old words e n, seen-after new k (n % 512) differs);
        mixed = ap (λ o. is_some o) some ∙ outcome.mixed;
        clean_entry = λ empty. absurd (let bad : Next k ≡ Empty = sym is_slot ∙ empty in cc);
        clean_table = λ x i at small empty. grind (arith, common_steps, nat_tests, seen-after new k i differs, stands i small);
      }))

  -- ---- where the tables lie

  pub second-inside : j < page_count m.quotas
  second-inside = share_inside m.quotas row j (h.orderly.owned (Gigabyte row (c / 512)) j in_gigabyte h.second)

  pub second-taken : m.taken j ≡ true
  second-taken = h.orderly.taken (Gigabyte row (c / 512)) j in_gigabyte h.second

  pub third-at : (k : ℕ) → entry ≡ Next k → table_at layout old (Chunk row c) ≡ Some k
  third-at k e = table-entry ∙ ap next_page e

  pub third-share : (k : ℕ) → entry ≡ Next k → InShare m.quotas row k
  third-share k e = h.orderly.owned (Chunk row c) k in_chunk (third-at k e)

  pub third-inside : (k : ℕ) → entry ≡ Next k → k < page_count m.quotas
  third-inside k e = share_inside m.quotas row k (third-share k e)

  pub third-taken : (k : ℕ) → entry ≡ Next k → m.taken k ≡ true
  third-taken k e = h.orderly.taken (Chunk row c) k in_chunk (third-at k e)

  not-third : (k : ℕ) → entry ≡ Next k → (b : Place) (q : ℕ) → IsPlace layout b → b ≢ Chunk row c → table_at layout old b ≡ Some q → q ≢ k
  not-third k e b q inside other at same = other (h.orderly.forest b (Chunk row c) q inside in_chunk at (third-at k e ∙ ap Some (sym same)))

  -- a table's page is not that of the table above it
  third-apart : (k : ℕ) → entry ≡ Next k → j ≢ k
  third-apart k e = not-third k e (Gigabyte row (c / 512)) j in_gigabyte (λ f. cc) h.second

  -- the word of a page of the chunk's table that is not reached is 0
  pub unreached-zero : (k n : ℕ) → entry ≡ Next k → n / 512 ≡ c → answers layout old row n ≡ None → m.words k (n % 512) ≡ 0
  unreached-zero k n is_table chunk none =
      let i = n % 512 in
      let small : i < 512 = omega arith in
      let was : walk layout old row n ≡ at_3 (slot layout 3 (old k i)) = walk-chunk layout old row n k h.partition (ap (λ x. table_at layout old (Chunk row x)) chunk ∙ third-at k is_table) in
      let unmapped : walk layout old row n ≡ Unmapped = tidy-answer n (walk layout old row n) (h.orderly.tidy row n h.partition (omega (arith, chunk, h.chunk))) ∙ ap (walked n) none in
      sym (third-seen k i (third-at k is_table)) ∙ h.orderly.clean (Chunk row c) k i in_chunk (third-at k is_table) small (grind (arith, common_steps, nat_tests))

  pub clean-words : (read : Slot) (k : ℕ) → read ≡ entry → read ≡ Next k → (n : ℕ) → n / 512 ≡ c → answers_at layout m.words (Next k) n ≡ None → m.words k (n % 512) ≡ 0
  clean-words read k is next n chunk none = grind (arith, common_steps, nat_tests, unreached-zero, answers-entry)

  -- where the chunk's pages are to answer alike, those in no run did so before
  pub others-before : (runs : List PageRun) (access : View) (k : ℕ) → entry ≡ Next k → IsOutcome c (edited runs access (answers layout old row)) (Some access) → (n : ℕ) → n / 512 ≡ c → covers runs n ≡ false → answers_at layout m.words (Next k) n ≡ access
  others-before runs access k is_table outcome n chunk out = grind (arith, common_steps, nat_tests, outcome.same access refl n chunk, answers-entry n chunk)

  -- its table's words stay where the chunk's own word is written
  pub left-kept : (k word : ℕ) (new : Pages) → entry ≡ Next k → new ≡ with_put j (c % 512) word m → (i : ℕ) → new.words k i ≡ m.words k i
  left-kept k word new is_table e i = ap (λ (x : Pages). x.words k i) e ∙ put-other m.words j (c % 512) word k i (λ same _. third-apart k is_table (sym same))

  -- of which so many are not 0
  pub left-words : (k word : ℕ) (new : Pages) → entry ≡ Next k → new ≡ with_put j (c % 512) word m → nonzero_in new.words k ≡ nonzero_in m.words k
  unfolding nonzero_in
  left-words k word new is_table e =
      count_below-same (λ i. not (m.words k i == 0)) (λ i. not (new.words k i == 0)) 512
      (λ i lt. ap (λ w. not (w == 0)) (ap (λ (x : Pages). x.words k i) e ∙ put-other m.words j (c % 512) word k i (λ same _. third-apart k is_table (sym same))))

  -- as many as its pages that are reached
  pub third-words : (k : ℕ) → entry ≡ Next k → nonzero_in m.words k ≡ reached_in (answers layout old row) c
  third-words k e =
      table-words layout m.words c k (clean-words (Next k) k (sym e) refl)
      ∙ reached-as (answers layout old row) (answers_at layout m.words (Next k)) c
      (λ i lt. sym (answers-entry (512 * c + i) (omega (arith, lt)) ∙ ap (λ (s : Slot). answers_at layout m.words s (512 * c + i)) e))

  -- a table hangs in the chunk exactly where its pages are not all reached alike
  pub entry-mixed : is_mixed (answers layout old row) c ≡ is_some (next_page entry)
  entry-mixed = sym (h.orderly.mixed row c h.partition h.chunk) ∙ ap (λ o. is_some o) table-entry

  -- ---- the four edits

  pub does-set : (answer : ℕ → View) (one : View) (word : ℕ) (new : Pages) → next_page entry ≡ None → IsEntryFor c one word → new ≡ with_put j (c % 512) word m → IsOutcome c answer (Some one) → Redoes_in layout row c j answer m new
  does-set answer one word new none is e outcome =
      blocked answer one word new (ap (λ (x : Pages). x.ids) e) (ap (λ (x : Pages). x.quotas) e)
      (λ b q i inside other at apart. ap (λ (x : Pages). x.words q i) e ∙ put-other m.words j (c % 512) word q i apart)
      (ap (λ (x : Pages). x.words j (c % 512)) e ∙ put-same m.words j (c % 512) word)
      is (inl (none, ap (λ (x : Pages). x.taken) e)) outcome

  pub does-drop : (answer : ℕ → View) (one : View) (word k : ℕ) (m1 m2 new : Pages) → entry ≡ Next k → IsEntryFor c one word → m1 ≡ with_put j (c % 512) word m → Writes k c (planned [] None (Some None)) m1 m2 → new ≡ with_mark k false m2 → IsOutcome c answer (Some one)
      → Redoes_in layout row c j answer m new
  does-drop answer one word k m1 m2 new is_table is e1 writes e outcome =
      blocked answer one word new (ap (λ (x : Pages). x.ids) e ∙ writes.ids ∙ ap (λ (x : Pages). x.ids) e1) (ap (λ (x : Pages). x.quotas) e ∙ writes.quotas ∙ ap (λ (x : Pages). x.quotas) e1)
      (λ b q i inside other at apart. ap (λ (x : Pages). x.words q i) e ∙ writes.others q i (not-third k is_table b q inside other at) ∙ ap (λ (x : Pages). x.words q i) e1 ∙ put-other m.words j (c % 512) word q i apart)
      (ap (λ (x : Pages). x.words j (c % 512)) e ∙ writes.others j (c % 512) (not-third k is_table (Gigabyte row (c / 512)) j in_gigabyte (λ f. cc) h.second) ∙ ap (λ (x : Pages). x.words j (c % 512)) e1 ∙ put-same m.words j (c % 512) word)
      is (inr (k, ap next_page is_table, ap (λ (x : Pages). x.taken) e ∙ ap (mark k false) (writes.taken ∙ ap (λ (x : Pages). x.taken) e1))) outcome

  -- the table of the chunk is all 0, once it is written so
  pub drop-zero : (k : ℕ) (m1 m2 : Pages) → Writes k c (planned [] None (Some None)) m1 m2 → (i : ℕ) → i < 512 → m2.words k i ≡ 0
  drop-zero k m1 m2 writes i small = (writes.here i None small refl).zero refl

  pub does-rewrite : (runs : List PageRun) (access : View) (k : ℕ) (new : Pages) → entry ≡ Next k → Writes k c (planned runs access None) m new → IsOutcome c (edited runs access (answers layout old row)) None
      → Redoes_in layout row c j (edited runs access (answers layout old row)) m new
  does-rewrite runs access k new is_table writes outcome =
      tabled (edited runs access (answers layout old row)) k new writes.ids writes.quotas
      (λ b q i inside other at apart. writes.others q i (not-third k is_table b q inside other at))
      (ap (slot layout 2) (writes.others j (c % 512) (not-third k is_table (Gigabyte row (c / 512)) j in_gigabyte (λ f. cc) h.second)) ∙ is_table)
      (λ same. not-third k is_table (Root row) row h.partition (λ f. cc) (table_at-root layout old row) (sym same))
      (λ i small. elim (cases_Bool (covers runs (512 * c + i))) [
        | inl e ↦ stand (edited runs access (answers layout old row)) k new i access (writes.here i access small (rw e refl)) (rw e refl)
        | inr e ↦
            let n = 512 * c + i in
            let read : new.words k i ≡ old k i = writes.stays i small (rw e refl) ∙ sym (third-seen k i (third-at k is_table)) in
            let tidy : IsTidy n (walk layout old row n) = h.orderly.tidy row n h.partition (omega (arith, small, h.chunk)) in (
              ap (λ w. at_3 (slot layout 3 w)) read ∙ sym (page-walk layout old row c i k h.partition small (third-at k is_table)) ∙ tidy-answer n (walk layout old row n) tidy ∙ rw e refl,
              λ empty. read ∙ h.orderly.clean (Chunk row c) k i in_chunk (third-at k is_table) small (sym (ap (slot layout 3) read) ∙ empty),
            )
      ])
      (inl (ap next_page is_table, writes.taken)) outcome

  pub does-hang : (runs : List PageRun) (access before : View) (k : ℕ) (m1 m2 new : Pages) → next_page entry ≡ None → IsLowestFree m row k → ((n : ℕ) → n / 512 ≡ c → answers layout old row n ≡ before) → m1 ≡ with_mark k true m
      → Writes k c (planned runs access (Some before)) m1 m2 → new ≡ with_put j (c % 512) (table_word_of (layout.base + k)) m2 → IsOutcome c (edited runs access (answers layout old row)) None
      → Redoes_in layout row c j (edited runs access (answers layout old row)) m new
  does-hang runs access before k m1 m2 new none lowest was e1 writes e outcome =
      tabled (edited runs access (answers layout old row)) k new (ap (λ (x : Pages). x.ids) e ∙ writes.ids ∙ ap (λ (x : Pages). x.ids) e1) (ap (λ (x : Pages). x.quotas) e ∙ writes.quotas ∙ ap (λ (x : Pages). x.quotas) e1)
      (λ b q i inside other at apart. read q i apart ∙ writes.others q i (not-fresh b q inside at) ∙ ap (λ (x : Pages). x.words q i) e1)
      (ap (slot layout 2) (ap (λ (x : Pages). x.words j (c % 512)) e ∙ put-same m2.words j (c % 512) (table_word_of (layout.base + k)))
      ∙ slot-table layout 2 k (omega arith) (let inside : k < page_count m.quotas = share_inside m.quotas row k lowest.inside in rw h.orderly.pages inside) h.orderly.fits)
      (λ same. not-fresh (Root row) row h.partition (table_at-root layout old row) (sym same))
      (λ i small. elim (cases_Bool (covers runs (512 * c + i))) [
        | inl f ↦ stand (edited runs access (answers layout old row)) k new i access (rw (read_k i) (writes.here i access small (rw f refl))) (rw f refl)
        | inr f ↦ stand (edited runs access (answers layout old row)) k new i before (rw (read_k i) (writes.here i before small (rw f refl))) (rw f (was (512 * c + i) (omega (arith, small))))
      ])
      (inr (none, lowest.inside, lowest.free, ap (λ (x : Pages). x.taken) e ∙ writes.taken ∙ ap (λ (x : Pages). x.taken) e1)) outcome
    where
      not-fresh : (b : Place) (q : ℕ) → IsPlace layout b → table_at layout old b ≡ Some q → q ≢ k
      not-fresh b q inside at same = let held : m.taken q ≡ true = h.orderly.taken b q inside at in let free : m.taken q ≡ false = ap m.taken same ∙ lowest.free in absurd (cc)

      read : (q i : ℕ) → (q ≡ j → i ≡ c % 512 → ⊥) → new.words q i ≡ m2.words q i
      read q i apart = ap (λ (x : Pages). x.words q i) e ∙ put-other m2.words j (c % 512) (table_word_of (layout.base + k)) q i apart

      read_k : (i : ℕ) → new.words k i ≡ m2.words k i
      read_k i = read k i (λ same _. not-fresh (Gigabyte row (c / 512)) j in_gigabyte h.second (sym same))

  -- ---- what the code reads

  pub outcome-read : (runs : List PageRun) (access : View) (read : Slot) (o found : Option View) → read ≡ entry → o ≡ found → IsOutcome c (edited runs access (answers_at layout m.words read)) o → IsOutcome c (edited runs access (answers layout old row)) found
  outcome-read runs access read o found is e outcome = grind (arith, common_steps, nat_tests, answers-entry, mixed-same)

  pub growing : (new : ℕ → View) → next_page entry ≡ None → IsOutcome c new None → IsGrowing (answers layout old row) new c
  growing new none outcome = grind (arith, common_steps, nat_tests, table-entry)

  pub before-block : next_page entry ≡ None → (n : ℕ) → n / 512 ≡ c → answers layout old row n ≡ block_answer entry
  before-block none n at = answers-entry n at ∙ plain-answer layout m.words entry n none

pub is-next : (s : Slot) (k : ℕ) → next_page s ≡ Some k → s ≡ Next k
is-next s k e = grind (arith, common_steps, nat_tests)
