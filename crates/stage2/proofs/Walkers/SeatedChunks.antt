-- A chunk whose gigabyte's table hangs, or hangs only once the root's word is written: what hangs in the words as they are.
use Rattle.std.proofs.Common.{◌≡◌, ◌≢◌, ℕ, ◌+◌, ◌*◌, ◌/◌, ◌%◌, ◌^◌, ◌<◌, true, false, Some, None, length, refl, arith, ap, sym, subst, ◌∙◌, inl, inr}
use Rattle.stage2.proofs.Names.{View, table_word_of, Words, Pages, put, Layout, Next, slot, IsInvalid, at_2, walk, walked, Place, Gigabyte, Chunk, next_page, table_at, IsPlace, IsForest, answers, Redoes_in, IsSite, IsEntryFor, IsOutcome, IsSeated, nat_tests, common_steps}
use Rattle.stage2.proofs.Tree.WalkFrame.{IsLevel3Write, IsUnheld, AgreeOutside, table_at-outside}
use Rattle.stage2.proofs.Tree.PutTwice.{put-twice, put-there}
use Rattle.stage2.proofs.Walkers.CallSeams.{hangs-linked, unheld-gigabyte, unheld-chunk}
use Rattle.stage2.proofs.Editing.FourChunkEdits.{old, entry, table-entry, walk-entry, at_2-seen, third-at, unreached-zero, slot-word, no-table, at_2-block}
use Rattle.stage2.proofs.Walkers.StepLists.{IsHung}

module _ {layout : Layout} {row c j : ℕ} {m : Pages} (h : IsSite layout row c j m) where
  -- the words as they are, where the link is written, and where it is not
  same-words : m.words row (c / 512) ≡ table_word_of (layout.base + j) → old h ≡ m.words
  same-words e = put-there m.words row (c / 512) (table_word_of (layout.base + j)) e

  cut-words : m.words row (c / 512) ≡ 0 → put row (c / 512) 0 (old h) ≡ m.words
  cut-words e = put-twice m.words row (c / 512) (table_word_of (layout.base + j)) 0 ∙ put-there m.words row (c / 512) 0 e

  -- what hangs hangs with the link
  pub hangs-seen : IsSeated layout row (c / 512) j m → (b : Place) (q : ℕ) → IsPlace layout b → table_at layout m.words b ≡ Some q → table_at layout (old h) b ≡ Some q
  hangs-seen seated b q inside at = grind (arith, common_steps, nat_tests, same-words, hangs-linked, old, cut-words)

  pub forest-seen : IsSeated layout row (c / 512) j m → IsForest layout m.words
  forest-seen s a b q in_a in_b at_a at_b = h.orderly.forest a b q in_a in_b (hangs-seen s a q in_a at_a) (hangs-seen s b q in_b at_b)

  -- a free page hangs nowhere
  pub unheld-free : IsSeated layout row (c / 512) j m → (k : ℕ) → m.taken k ≡ false → IsUnheld layout m.words k
  unheld-free s k free b inside at = let held : m.taken k ≡ true = h.orderly.taken b k inside (hangs-seen s b k inside at) in absurd (cc)

  pub unheld-third : m.words row (c / 512) ≡ 0 → (k : ℕ) → entry h ≡ Next k → IsUnheld layout m.words k
  unheld-third e k is =
      subst (λ (w : Words). IsUnheld layout w k) (cut-words e) (unheld-chunk layout (old h) row (c / 512) h.orderly.forest h.partition c k h.chunk refl (third-at h k is))

  -- the level 2 table hangs, or hangs nowhere
  pub hung-seen : IsSeated layout row (c / 512) j m → IsHung layout m.words row c j
  hung-seen seated = grind (arith, common_steps, nat_tests, forest-seen, same-words, cut-words, unheld-gigabyte, old)

  -- the table of the chunk hangs there alone, or nowhere
  pub third-alone : IsSeated layout row (c / 512) j m → (k : ℕ) → entry h ≡ Next k → (a : Place) → IsPlace layout a → a ≢ Chunk row c → table_at layout m.words a ≡ Some k → ⊥
  third-alone s k is a inside other at = other (h.orderly.forest a (Chunk row c) k inside (h.partition, h.chunk) (hangs-seen s a k inside at) (third-at h k is))

  -- where the level 2 table hangs nowhere, nor does it
  pub third-loose : IsSeated layout row (c / 512) j m → (k : ℕ) → entry h ≡ Next k → IsUnheld layout m.words j → IsUnheld layout m.words k
  third-loose seated k is loose = grind (arith, common_steps, nat_tests, same-words, unheld-third)

  pub third-hangs : m.words row (c / 512) ≡ table_word_of (layout.base + j) → (k : ℕ) → entry h ≡ Next k → table_at layout m.words (Chunk row c) ≡ Some k
  third-hangs e k is = ap (λ (w : Words). table_at layout w (Chunk row c)) (sym (same-words e)) ∙ third-at h k is

  -- the walks of the chunk's pages, from its word on
  pub gives-entry : (n : ℕ) → n / 512 ≡ c → walk layout (old h) row n ≡ at_2 layout m.words n (entry h)
  gives-entry n at = walk-entry h n at ∙ at_2-seen h n (entry h) (sym (table-entry h))

-- a page that hung nowhere was filled
pub hung-outside : (layout : Layout) {words new : Words} {row c j k : ℕ} → row < length layout.ids → c < 262144 → IsUnheld layout words k → AgreeOutside k words new → IsHung layout words row c j → IsHung layout new row c j
hung-outside layout {words} {new} {row} {c} {j} {k} partition small free agree (inl h) = inl (
  λ a b q in_a in_b at_a at_b. h.0 a b q in_a in_b (sym (table_at-outside layout words new k free agree a in_a) ∙ at_a) (sym (table_at-outside layout words new k free agree b in_b) ∙ at_b),
  table_at-outside layout words new k free agree (Gigabyte row (c / 512)) (partition, omega (arith, small)) ∙ h.1,
)
hung-outside layout {words} {new} {row} {c} {j} {k} partition small free agree (inr h) = inr (λ a inside at. h a inside (sym (table_at-outside layout words new k free agree a inside) ∙ at))

pub unheld-outside : (layout : Layout) {words new : Words} {k : ℕ} → IsUnheld layout words k → AgreeOutside k words new → IsUnheld layout new k
unheld-outside layout {words} {new} {k} free agree a inside at = free a inside (sym (table_at-outside layout words new k free agree a inside) ∙ at)

-- ---- after the edit of a chunk

pub site-after : {layout : Layout} {row c j : ℕ} {view : ℕ → View} {m new : Pages} → IsSite layout row c j m → Redoes_in layout row c j view m new → IsSite layout row c j new
site-after h r = grind (arith, common_steps, nat_tests)

-- the chunk's word says what its pages answer
pub gives-after : {layout : Layout} {row c j : ℕ} {view : ℕ → View} {m new : Pages} → IsSite layout row c j m → Redoes_in layout row c j view m new → (n : ℕ) → n < 2 ^ 27 → n / 512 ≡ c → at_2 layout new.words n (slot layout 2 (new.words j (c % 512))) ≡ walked n (view n)
gives-after {layout} {row} {c} {j} {view} {m} {new} h r n small at = grind (arith, common_steps, nat_tests, gives-entry (site-after h r) n, site-after h r, r.redoes.walks row n small)

-- a block, or nothing, is what it says
pub gives-block : (layout : Layout) (words : Words) (c word : ℕ) (view : ℕ → View) (one : View) → IsEntryFor c one word → IsOutcome c view (Some one) → (n : ℕ) → n / 512 ≡ c → at_2 layout words n (slot layout 2 word) ≡ walked n (view n)
gives-block layout words c word view one is outcome n at =
    ap (at_2 layout words n) (slot-word layout 2 (512 * c) word one is.entry) ∙ at_2-block layout words c n one at ∙ ap (walked n) (sym (outcome.same one refl n at))

pub block-no-table : (layout : Layout) (c word : ℕ) (one : View) → IsEntryFor c one word → next_page (slot layout 2 word) ≡ None
block-no-table layout c word one is = ap next_page (slot-word layout 2 (512 * c) word one is.entry) ∙ no-table layout (512 * c) one

-- ---- words of pages that are not mapped

pub invalid-word : {layout : Layout} {row c j : ℕ} {m : Pages} (h : IsSite layout row c j m) (k i : ℕ) → entry h ≡ Next k → i < 512 → answers layout (old h) row (512 * c + i) ≡ None → IsInvalid (m.words k i)
invalid-word {layout} {row} {c} {j} {m} h k i is small none =
    let chunk : (512 * c + i) / 512 ≡ c = omega (arith, small) in
    let index : (512 * c + i) % 512 ≡ i = omega (arith, small) in
    ap (λ x. m.words k x % 2) (sym index) ∙ ap (λ w. w % 2) (unreached-zero h k (512 * c + i) is chunk none)

-- the table of the chunk hangs
pub level_3-seen : {layout : Layout} {row c j : ℕ} {m : Pages} (h : IsSite layout row c j m) → (e : m.words row (c / 512) ≡ table_word_of (layout.base + j)) → (k : ℕ) → entry h ≡ Next k → IsLevel3Write layout m.words row c k
level_3-seen h e k is = record { forest = forest-seen h (inl e); partition = h.partition; chunk = h.chunk; table = third-hangs h e k is }
