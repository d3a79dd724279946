-- Where one call ends and the next begins, and tables that hang only once a root's word is set.
use Rattle.std.proofs.Common.{◌≡◌, ◌≢◌, ℕ, ◌/◌, ◌%◌, ◌^◌, ◌<◌, false, List, [], ◌∷◌, Some, None, length, arith, ap, sym, ◌∙◌, subst, ◌⊎◌, inl, inr}
use Rattle.stage2.proofs.Names.{Access, View, row_of, Pool, Words, words_of, put, Op, Set, Walked, Layout, slot, walk, walked, Agrees, Place, Root, Gigabyte, Chunk, next_page, table_at, IsPlace, IsForest, words_after, invalidates, Since, Walker, Begins, Ends, UnderWay, begins, now, earlier, Moments, nat_tests, common_steps, Unmapped, Mapped}
use Rattle.stage2.specs.Moments.{Second, Third, IsValid}
use Rattle.stage2.proofs.Tree.WalkFrame.{put-same, put-other, other_table, table_at-root, table_at-gigabyte, table_at-chunk, IsUnheld}
use Rattle.stage2.proofs.Tree.RootWrites.{is_pair}
use Rattle.stage2.proofs.Walkers.Level3Write.{slot-zero}
use Rattle.stage2.proofs.Walkers.InStep.{gigabyte-now}
use Rattle.stage2.proofs.Walkers.UnderWay.{under_way-now}
use Rattle.stage2.proofs.Walkers.BreakBeforeMake.{second-at, third-at}
use Rattle.stage2.proofs.Walkers.TableWrites.{no-table-below}

-- ---- the next call

-- a walk that is under way when a call ends gives nothing, or is one that may be there when the next begins
pub next_call : (layout : Layout) (old new : Pool) (before after : ℕ → ℕ → View) → Moments layout old new before after → Agrees layout (words_of new.memory.words) after
    → (p n : ℕ) → row_of layout.ids p < length layout.ids → n < 2 ^ 27 → (w : Walker) → UnderWay layout (words_of old.memory.words) (row_of layout.ids p) n new.operations w
    → (w ≡ Ends Unmapped) ⊎ UnderWay layout (words_of new.memory.words) (row_of layout.ids p) n [] w
next_call layout old new before after h ends p n inside small Begins u = inr (begins [])
next_call layout old new before after h ends p n inside small (Second j) u = inr (second-at layout (words_of new.memory.words) (row_of layout.ids p) n [] j (h.linked (row_of layout.ids p) n inside small (Second j) u))
next_call layout old new before after h ends p n inside small (Third k) u = inr (third-at layout (words_of new.memory.words) (row_of layout.ids p) n [] k (h.linked (row_of layout.ids p) n inside small (Third k) u))
next_call layout old new before after h ends p n inside small (Ends a) u = elim (h.fresh p n a (inside, small, u)) [
  | inl none ↦ inl (ap Ends none)
  | inr is ↦
      let there = under_way-now layout (words_of new.memory.words) (row_of layout.ids p) n [] [] inside (now []) in
      inr (subst (λ (x : Walked). UnderWay layout (words_of new.memory.words) (row_of layout.ids p) n [] (Ends x)) (ends p n small ∙ sym is) there)
]

-- ---- tables below a root's word that is still 0

module _ (layout : Layout) (linked : Words) (p g : ℕ) (forest : IsForest layout linked) (partition : p < length layout.ids) where
  below : (b : Place) (k : ℕ) → IsPlace layout b → table_at layout linked b ≡ Some k → Root p ≢ b → (x : ℕ) → put p g 0 linked k x ≡ linked k x
  below b k inside at differ x = other_table layout linked (Root p) b p k g 0 forest partition inside (table_at-root layout linked p) at differ x

  gone : table_at layout (put p g 0 linked) (Gigabyte p g) ≡ None
  gone = gigabyte-now layout (put p g 0 linked) p g ∙ ap (λ w. next_page (slot layout 1 w)) (put-same linked p g 0) ∙ ap next_page (slot-zero layout 1)

  -- a table that hangs without the word hangs with it, and not below it
  pub hangs-linked : (b : Place) (k : ℕ) → IsPlace layout b → table_at layout (put p g 0 linked) b ≡ Some k → table_at layout linked b ≡ Some k
  hangs-linked (Root r) k inside at = table_at-root layout linked r ∙ sym (table_at-root layout (put p g 0 linked) r) ∙ at
  hangs-linked (Gigabyte r h) k inside at = elim (is_pair p g r h) [
    | inl e ↦ let none : table_at layout (put p g 0 linked) (Gigabyte r h) ≡ None = rw (e.0, e.1) gone in absurd (cc)
    | inr other ↦ sym (table_at-gigabyte layout linked (put p g 0 linked) r h (put-other linked p g 0 r h other)) ∙ at
  ]
  hangs-linked (Chunk r c) k inside at = elim (is_pair p g r (c / 512)) [
    | inl e ↦ let none : table_at layout (put p g 0 linked) (Gigabyte r (c / 512)) ≡ None = rw (e.0, e.1) gone in let nothing_below = no-table-below layout (put p g 0 linked) r c none in absurd (cc)
    | inr other ↦
        sym (table_at-chunk layout linked (put p g 0 linked) r c (record {
          first = put-other linked p g 0 r (c / 512) other;
          second = λ j at_j. below (Gigabyte r (c / 512)) j (inside.0, omega (arith, inside.1)) at_j (λ f. cc) (c % 512);
        })) ∙ at
  ]

  -- so while the word is 0, the tables below it may be written
  pub unheld-gigabyte : (j : ℕ) → g < 512 → table_at layout linked (Gigabyte p g) ≡ Some j → IsUnheld layout (put p g 0 linked) j
  unheld-gigabyte j small at b inside at_b = grind (arith, common_steps, nat_tests, hangs-linked, gone)

  pub unheld-chunk : (c k : ℕ) → c < 262144 → c / 512 ≡ g → table_at layout linked (Chunk p c) ≡ Some k → IsUnheld layout (put p g 0 linked) k
  unheld-chunk c k small e at b inside at_b = grind (arith, common_steps, nat_tests, hangs-linked, gone, no-table-below)

-- ---- what a call cannot do and have `Moments`

-- no operation of the list invalidates the page
abbrev NeverInvalidated : Layout → ℕ → ℕ → List Op → Type 0
NeverInvalidated layout row n [] = Unit {0}
NeverInvalidated layout row n (op ∷ past) = (invalidates layout op row n ≡ false) × NeverInvalidated layout row n past

since-entry : (layout : Layout) (row n : ℕ) (ops : List Op) → NeverInvalidated layout row n ops → Since layout row n [] ops
since-entry layout row n [] h = now []
since-entry layout row n (op ∷ past) h = earlier [] past op h.0 (since-entry layout row n past h.1)

-- a page that is taken away is invalidated: its old answer may be cached
pub stale-refused : (layout : Layout) (old new : Pool) (before after : ℕ → ℕ → View) (p n : ℕ) (x : Access) → Moments layout old new before after → Agrees layout (words_of old.memory.words) before → row_of layout.ids p < length layout.ids → n < 2 ^ 27
    → before p n ≡ Some x → after p n ≡ None → NeverInvalidated layout (row_of layout.ids p) n new.operations → ⊥
stale-refused layout old new before after p n x h starts inside small was is never =
    let row = row_of layout.ids p in
    let mapped : walk layout (words_of old.memory.words) row n ≡ Mapped n x = starts p n small ∙ ap (walked n) was in
    let gone : walked n (after p n) ≡ Unmapped = ap (walked n) is in
    elim (h.fresh p n (walk layout (words_of old.memory.words) row n) (inside, small, (under_way-now layout (words_of old.memory.words) row n [] new.operations inside (since-entry layout row n new.operations never)))) [
      | inl none ↦ cc
      | inr same ↦ cc
    ]

-- and a valid word of a root is never overwritten but by 0
pub overwrite-refused : (layout : Layout) (old new : Pool) (before after : ℕ → ℕ → View) (row index word : ℕ) (past : List Op) → Moments layout old new before after → new.operations ≡ Set row index word ∷ past → row < length layout.ids
    → IsValid (words_after past (words_of old.memory.words) row index) → word ≢ 0 → ⊥
overwrite-refused layout old new before after row index word past h ops inside valid other = grind (arith, common_steps, nat_tests, table_at-root layout (words_after past (words_of old.memory.words)) row)
