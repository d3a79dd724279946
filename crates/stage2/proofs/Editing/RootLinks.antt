-- A level 2 table without valid words is linked in a root, or its link is taken away: all walks stay, and the tables are orderly.
use Rattle.std.proofs.Common.{◌≡◌, ◌≢◌, ℕ, ◌+◌, ◌/◌, ◌^◌, ◌<◌, true, false, Some, None, length, refl, arith, ap, sym, ◌∙◌, inl, inr}
use Rattle.stage2.proofs.Names.{page_count, table_word_of, Pages, InShare, put, with_put, with_mark, Layout, Empty, Next, slot, index_2, at_2, walk, Place, Gigabyte, next_page, table_at, IsPlace, IsOrderly, level_at, linked, nat_tests, common_steps, Unmapped}
use Rattle.pool.proofs.Shares.{share_inside}
use Rattle.stage2.proofs.Tree.WalkFrame.{put-other, put-same, walk-gigabyte, table_at-root, IsUnheld}
use Rattle.stage2.proofs.Tree.RootWrites.{IsRootWrite, is_gigabyte, is_pair, table_at-root_write, table_at-root_write-gigabyte, table_at-root_write-chunk, table_at-root_write-below, walk-root_write}
use Rattle.stage2.proofs.Walkers.Level3Write.{slot-zero}
use Rattle.stage2.proofs.Tree.LinkTable.{slot-table, walk-inside}
use Rattle.stage2.proofs.Counting.Needs.{mixed-same, mixed-none}
use Rattle.stage2.proofs.Editing.Trades.{Trade, Hang, Drop, traded}

pub record IsRooted (layout : Layout) (row g word : ℕ) (old new : Pages) : Type 0 where
  pub orderly : IsOrderly layout old
  pub write : IsRootWrite layout old.words row g word
  pub ids : new.ids ≡ old.ids
  pub quotas : new.quotas ≡ old.quotas
  pub words : new.words ≡ put row g word old.words
  pub trade : Trade layout row (Gigabyte row g) old new
  pub zero : slot layout 1 word ≡ Empty → word ≡ 0
  pub empty : (k i : ℕ) → next_page (slot layout 1 word) ≡ Some k → i < 512 → old.words k i ≡ 0

module _ (layout : Layout) (row g word : ℕ) (old new : Pages) (h : IsRooted layout row g word old new) where
  pub same-walk : (r n : ℕ) → n < 2 ^ 27 → walk layout new.words r n ≡ walk layout old.words r n
  same-walk r n small = ap (λ w. walk layout w r n) h.words ∙ walk-root_write layout old.words row g word h.write r n small

  pub kept : (b : Place) → IsPlace layout b → b ≢ Gigabyte row g → table_at layout new.words b ≡ table_at layout old.words b
  kept b inside other = ap (λ w. table_at layout w b) h.words ∙ (grind (arith, common_steps, nat_tests, table_at-root, table_at-root_write-gigabyte, table_at-root_write-below, mixed-none, table_at-root_write-chunk))

  here : (q : ℕ) → table_at layout new.words (Gigabyte row g) ≡ Some q → next_page (slot layout 1 word) ≡ Some q
  here q at = sym (table_at-root_write layout old.words row g word h.write) ∙ sym (ap (λ w. table_at layout w (Gigabyte row g)) h.words) ∙ at

  read : (q i : ℕ) → (q ≡ row → i ≡ g → ⊥) → new.words q i ≡ old.words q i
  read q i apart = ap (λ w. w q i) h.words ∙ put-other old.words row g word q i apart

  clean : (a : Place) (q i : ℕ) → IsPlace layout a → table_at layout new.words a ≡ Some q → i < 512 → slot layout (level_at a) (new.words q i) ≡ Empty → new.words q i ≡ 0
  clean a q i inside at below none = elim (is_gigabyte a row g) [
    | inl f ↦ grind (arith, common_steps, nat_tests, here, read, h.write.fresh, table_at-root layout old.words row, h.empty)
    | inr f ↦ grind (arith, common_steps, nat_tests, kept a inside f, is_pair row g q i, h.orderly.forest, table_at-root layout old.words row, put-same old.words row g word, h.zero, read, h.orderly.clean)
  ]

  pub rooted : IsOrderly layout new
  rooted =
      traded (record {
        orderly = h.orderly;
        at = (h.write.partition, h.write.gigabyte);
        partition = h.write.partition;
        of_row = inl (g, refl);
        is_x = λ b. is_gigabyte b row g;
        kept = kept;
        quotas = h.quotas;
        trade = h.trade;
      }) h.ids clean
      (λ r n inside small. rw (same-walk r n small) (h.orderly.tidy r n inside small))
      (λ r c inside below. grind (arith, common_steps, nat_tests, kept, h.orderly.mixed r c inside below, mixed-same, same-walk))

-- ---- a free page is linked

-- nothing is mapped in a gigabyte without a table
pub untabled : (layout : Layout) (m : Pages) (row n : ℕ) → IsOrderly layout m → row < length layout.ids → n < 2 ^ 27 → table_at layout m.words (Gigabyte row (n / 512 / 512)) ≡ None → walk layout m.words row n ≡ Unmapped
unfolding table_at
untabled layout m row n orderly inside small none = grind (arith, common_steps, nat_tests, read, walk-inside)

pub record IsLink (layout : Layout) (row g k : ℕ) (m : Pages) : Type 0 where
  pub orderly : IsOrderly layout m
  pub partition : row < length layout.ids
  pub gigabyte : g < 512
  pub none : table_at layout m.words (Gigabyte row g) ≡ None
  pub inside : InShare m.quotas row k
  pub free : m.taken k ≡ false
  pub zero : (i : ℕ) → m.words k i ≡ 0

module _ (layout : Layout) (row g k : ℕ) (m : Pages) (h : IsLink layout row g k m) where
  is_slot : slot layout 1 (table_word_of (layout.base + k)) ≡ Next k
  is_slot = slot-table layout 1 k (omega arith) (let inside : k < page_count m.quotas = share_inside m.quotas row k h.inside in rw h.orderly.pages inside) h.orderly.fits

  unheld : IsUnheld layout m.words k
  unheld b inside at = let held : m.taken k ≡ true = h.orderly.taken b k inside at in let free : m.taken k ≡ false = h.free in absurd (cc)

  link-write : IsRootWrite layout m.words row g (table_word_of (layout.base + k))
  link-write = grind (arith, common_steps, nat_tests, is_slot, unheld, slot-zero, untabled, clean)

  pub link-table : table_at layout (linked layout row g k (with_mark k true m)).words (Gigabyte row g) ≡ Some k
  link-table = table_at-root_write layout m.words row g (table_word_of (layout.base + k)) link-write ∙ ap next_page is_slot

  pub link-rooted : IsRooted layout row g (table_word_of (layout.base + k)) m (linked layout row g k (with_mark k true m))
  link-rooted = record {
    orderly = h.orderly;
    write = link-write;
    ids = refl;
    quotas = refl;
    words = refl;
    trade = Hang k (record { inside = h.inside; free = h.free; none = h.none; now = link-table; taken = refl });
    zero = λ empty. absurd (let s : Next k ≡ Empty = sym is_slot ∙ empty in cc);
    empty = λ j i e below. let same : j ≡ k = let s = is_slot in cc in rw same (h.zero i);
  }

-- ---- a table without valid words is taken away

pub record IsUnlink (layout : Layout) (row g k : ℕ) (m : Pages) : Type 0 where
  pub orderly : IsOrderly layout m
  pub partition : row < length layout.ids
  pub gigabyte : g < 512
  pub table : table_at layout m.words (Gigabyte row g) ≡ Some k
  pub zero : (i : ℕ) → i < 512 → m.words k i ≡ 0

module _ (layout : Layout) (row g k : ℕ) (m : Pages) (h : IsUnlink layout row g k m) where
  pub unlink-unmapped : (n : ℕ) → n / 512 / 512 ≡ g → walk layout m.words row n ≡ Unmapped
  unlink-unmapped n e =
      walk-gigabyte layout m.words row n k h.partition (ap (λ x. table_at layout m.words (Gigabyte row x)) e ∙ h.table)
      ∙ ap (at_2 layout m.words n) (ap (slot layout 2) (h.zero (index_2 n) (omega arith)) ∙ slot-zero layout 2)

  unlink-write : IsRootWrite layout m.words row g 0
  unlink-write = grind (arith, common_steps, nat_tests, slot-zero, unlink-unmapped, clean)

  pub unlink-table : table_at layout (put row g 0 m.words) (Gigabyte row g) ≡ None
  unlink-table = table_at-root_write layout m.words row g 0 unlink-write ∙ ap next_page (slot-zero layout 1)

  pub unlink-rooted : IsRooted layout row g 0 m (with_mark k false (with_put row g 0 m))
  unlink-rooted = record {
    orderly = h.orderly;
    write = unlink-write;
    ids = refl;
    quotas = refl;
    words = refl;
    trade = Drop k (record { was = h.table; now = unlink-table; taken = refl });
    zero = λ empty. refl;
    empty = λ j i e below. let s : next_page (slot layout 1 0) ≡ None = ap next_page (slot-zero layout 1) in absurd (cc);
  }
