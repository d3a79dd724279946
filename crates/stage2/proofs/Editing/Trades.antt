-- A table is hung at one place, or given back there, or stays: the tables of all other places stay.
use Rattle.std.proofs.Common.{◌≡◌, ◌≢◌, ℕ, ◌+◌, ◌^◌, ◌<◌, Bool, true, false, is_some, Some, None, length, arith, ap, ap₂, sym, subst, ◌∙◌, ◌⊎◌, inl, inr}
use Rattle.stage2.proofs.Names.{slot, level_at, Empty, IsTidy, walk, is_mixed, answers, Words, Pages, InShare, mark, with_mark, used_by, count_below, Layout, Place, Gigabyte, Chunk, table_at, IsPlace, IsForest, IsOrderly, nat_tests, common_steps, cases_eq}
use Rattle.pool.proofs.Words.{mark-same, mark-other, mark-kept}
use Rattle.pool.proofs.Count.{count_below-same, count_below-one}
use Rattle.pool.proofs.Shares.{used_by-take, used_by-give, used_by-other}
use Rattle.stage2.specs.Sound.{Owns}
use Rattle.stage2.specs.Orderly.{Hangs, hung}
use Rattle.stage2.proofs.Tree.WalkFrame.{IsUnheld}
use Rattle.stage2.proofs.Editing.OneAfterAnother.{used_by-same}

-- the place's table stays, or there is none before and after
pub record Stays (layout : Layout) (x : Place) (old new : Pages) : Type 0 where
  pub taken : new.taken ≡ old.taken
  pub table : table_at layout new.words x ≡ table_at layout old.words x

-- page k was free, and is the place's table
pub record IsHung (layout : Layout) (row : ℕ) (x : Place) (k : ℕ) (old new : Pages) : Type 0 where
  pub inside : InShare old.quotas row k
  pub free : old.taken k ≡ false
  pub none : table_at layout old.words x ≡ None
  pub now : table_at layout new.words x ≡ Some k
  pub taken : new.taken ≡ mark k true old.taken

-- page k was the place's table, and is free
pub record IsDropped (layout : Layout) (x : Place) (k : ℕ) (old new : Pages) : Type 0 where
  pub was : table_at layout old.words x ≡ Some k
  pub now : table_at layout new.words x ≡ None
  pub taken : new.taken ≡ mark k false old.taken

pub data Trade (layout : Layout) (row : ℕ) (x : Place) (old new : Pages) : Type 0 where
  Stay : Stays layout x old new → Trade layout row x old new
  Hang : (k : ℕ) → IsHung layout row x k old new → Trade layout row x old new
  Drop : (k : ℕ) → IsDropped layout x k old new → Trade layout row x old new

-- a place of a row, and the tables of all others
pub record IsTrade (layout : Layout) (row : ℕ) (x : Place) (old new : Pages) : Type 0 where
  pub orderly : IsOrderly layout old
  pub at : IsPlace layout x
  pub partition : row < length layout.ids
  pub of_row : ((g : ℕ) × (x ≡ Gigabyte row g)) ⊎ ((c : ℕ) × (x ≡ Chunk row c))
  pub is_x : (b : Place) → (b ≡ x) ⊎ (b ≢ x)
  pub kept : (b : Place) → IsPlace layout b → b ≢ x → table_at layout new.words b ≡ table_at layout old.words b
  pub quotas : new.quotas ≡ old.quotas
  pub trade : Trade layout row x old new

module _ {layout : Layout} {row : ℕ} {x : Place} {old new : Pages} (h : IsTrade layout row x old new) where
  -- the place's table is taken, and hung there before or nowhere
  here-now : Trade layout row x old new → (q : ℕ) → table_at layout new.words x ≡ Some q → (IsUnheld layout old.words q ⊎ (table_at layout old.words x ≡ Some q)) × (new.taken q ≡ true)
  here-now (Stay t) q here = (inr (sym t.table ∙ here), ap (λ f. f q) t.taken ∙ h.orderly.taken x q h.at (sym t.table ∙ here))
  here-now (Hang k t) q here =
      let same : q ≡ k = let now = t.now in cc in
      (inl (λ b inside held. let taken : old.taken q ≡ true = h.orderly.taken b q inside held in let free : old.taken q ≡ false = ap old.taken same ∙ t.free in absurd (cc)), ap (λ f. f q) t.taken ∙ ap (mark k true old.taken) same ∙ mark-same old.taken k true)
  here-now (Drop k t) q here = let now = t.now in absurd (cc)

  pub fresh : (k : ℕ) → table_at layout new.words x ≡ Some k → IsUnheld layout old.words k ⊎ (table_at layout old.words x ≡ Some k)
  fresh k here = (here-now h.trade k here).0

  elsewhere : (b : Place) → IsPlace layout b → b ≢ x → (q : ℕ) → table_at layout new.words x ≡ Some q → table_at layout new.words b ≡ Some q → ⊥
  elsewhere b in_b differs q here there = grind (arith, common_steps, nat_tests, fresh)

  trade-forest : IsForest layout new.words
  trade-forest a b q in_a in_b at_a at_b =
      grind (arith, common_steps, nat_tests, h.is_x a, h.is_x b, elsewhere a in_a, elsewhere b in_b, h.kept a in_a, h.kept b in_b, h.orderly.forest a b q in_a in_b)

  taken-other : Trade layout row x old new → (b : Place) (q : ℕ) → IsPlace layout b → b ≢ x → table_at layout old.words b ≡ Some q → new.taken q ≡ true
  taken-other (Stay t) b q inside other was = ap (λ f. f q) t.taken ∙ h.orderly.taken b q inside was
  taken-other (Hang k t) b q inside other was = ap (λ f. f q) t.taken ∙ mark-kept old.taken k q (h.orderly.taken b q inside was)
  taken-other (Drop k t) b q inside other was = ap (λ f. f q) t.taken ∙ mark-other old.taken k q false (λ same. other (h.orderly.forest b x k inside h.at (was ∙ ap Some same) t.was)) ∙ h.orderly.taken b q inside was

  trade-taken : (b : Place) (q : ℕ) → IsPlace layout b → table_at layout new.words b ≡ Some q → new.taken q ≡ true
  trade-taken b q inside now = grind (arith, common_steps, nat_tests, h.is_x b, here-now h.trade q, taken-other h.trade b q inside, h.kept b inside)

  trade-owned : (b : Place) (q : ℕ) → IsPlace layout b → table_at layout new.words b ≡ Some q → Owns new.quotas b q
  trade-owned b q inside now = grind (arith, common_steps, nat_tests)

  hangs_in : Trade layout row x old new → (r q : ℕ) → InShare old.quotas r q → new.taken q ≡ true → Hangs layout new.words q
  hangs_in (Stay t) r q inside held =
      let was = h.orderly.hangs r q inside (sym (ap (λ f. f q) t.taken) ∙ held) in
      grind (arith, common_steps, nat_tests, was.1, was.2, h.is_x was.0, h.kept was.0 was.1, h.at, t.table)
  hangs_in (Hang k t) r q inside held = elim (cases_eq q k) [
    | inl same ↦ (x, h.at, t.now ∙ ap Some (sym same))
    | inr differs ↦ grind (arith, common_steps, nat_tests, h.orderly.hangs, mark-other old.taken k q true differs, h.kept, t.none)
  ]
  hangs_in (Drop k t) r q inside held = elim (cases_eq q k) [
    | inl same ↦ grind (arith, common_steps, nat_tests, mark-same old.taken k false)
    | inr differs ↦
        let was = h.orderly.hangs r q inside (sym (mark-other old.taken k q false differs) ∙ sym (ap (λ f. f q) t.taken) ∙ held) in
        grind (arith, common_steps, nat_tests, was.1, was.2, h.kept was.0 was.1, t.was)
  ]

  trade-hangs : (r q : ℕ) → InShare new.quotas r q → new.taken q ≡ true → Hangs layout new.words q
  trade-hangs r q inside = hangs_in h.trade r q (subst (λ qs. InShare qs r q) h.quotas inside)

  -- ---- as many pages are taken as tables hang

  abbrev hangs_at : Words → Place → Bool
  hangs_at words b = is_some (table_at layout words b)

  -- a place whose table stays
  same-at : (b : Place) → IsPlace layout b → (b ≡ x → table_at layout new.words x ≡ table_at layout old.words x) → hangs_at new.words b ≡ hangs_at old.words b
  same-at b inside same = grind (arith, common_steps, nat_tests)

  -- as many tables hang at some places
  same-many : (at : ℕ → Place) (n : ℕ) → ((i : ℕ) → i < n → IsPlace layout (at i)) → ((i : ℕ) → at i ≡ x → table_at layout new.words x ≡ table_at layout old.words x)
      → count_below (λ i. hangs_at new.words (at i)) n ≡ count_below (λ i. hangs_at old.words (at i)) n
  same-many at n inside same = count_below-same (λ i. hangs_at old.words (at i)) (λ i. hangs_at new.words (at i)) n (λ i below. same-at (at i) (inside i below) (same i))

  hung-kept : (r : ℕ) → r < length layout.ids → (r ≡ row → table_at layout new.words x ≡ table_at layout old.words x) → hung layout new.words r ≡ hung layout old.words r
  hung-kept r inside same = elim h.of_row [
    | inl f ↦ ap₂ (λ a b. a + b) (same-many (Gigabyte r) 512 (λ g below. (inside, below)) (λ g e. let e_r : r ≡ row = let z = f.1 in cc in same e_r)) (same-many (Chunk r) 262144 (λ c below. (inside, below)) (λ c e. let z = f.1 in absurd (cc)))
    | inr f ↦ ap₂ (λ a b. a + b) (same-many (Gigabyte r) 512 (λ g below. (inside, below)) (λ g e. let z = f.1 in absurd (cc))) (same-many (Chunk r) 262144 (λ c below. (inside, below)) (λ c e. let e_r : r ≡ row = let z = f.1 in cc in same e_r))
  ]

  -- one table more in words b than in words a
  hung-one : (a b : Words) → ((y : Place) → IsPlace layout y → y ≢ x → hangs_at b y ≡ hangs_at a y) → hangs_at a x ≡ false → hangs_at b x ≡ true → hung layout b row ≡ hung layout a row + 1
  hung-one a b same off on = elim h.of_row [
    | inl f ↦
        let one = count_below-one (λ g. hangs_at a (Gigabyte row g)) (λ g. hangs_at b (Gigabyte row g)) 512 f.0 (subst (IsPlace layout) f.1 h.at).1 (ap (hangs_at a) (sym f.1) ∙ off) (ap (hangs_at b) (sym f.1) ∙ on)
        (λ g below differs. same (Gigabyte row g) (h.partition, below) (λ e. differs (let z = f.1 in cc))) in
        omega (arith, one, count_below-same (λ c. hangs_at a (Chunk row c)) (λ c. hangs_at b (Chunk row c)) 262144 (λ c below. same (Chunk row c) (h.partition, below) (λ e. let z = f.1 in absurd (cc))))
    | inr f ↦
        let one = count_below-one (λ c. hangs_at a (Chunk row c)) (λ c. hangs_at b (Chunk row c)) 262144 f.0 (subst (IsPlace layout) f.1 h.at).1 (ap (hangs_at a) (sym f.1) ∙ off) (ap (hangs_at b) (sym f.1) ∙ on)
        (λ c below differs. same (Chunk row c) (h.partition, below) (λ e. differs (let z = f.1 in cc))) in
        omega (arith, one, count_below-same (λ g. hangs_at a (Gigabyte row g)) (λ g. hangs_at b (Gigabyte row g)) 512 (λ g below. same (Gigabyte row g) (h.partition, below) (λ e. let z = f.1 in absurd (cc))))
  ]

  used_in : Trade layout row x old new → (r : ℕ) → r < length layout.ids → used_by new r ≡ hung layout new.words r
  used_in (Stay t) r inside = used_by-same old new r t.taken h.quotas ∙ h.orderly.used r inside ∙ sym (hung-kept r inside (λ _. t.table))
  used_in (Hang k t) r inside =
      elim (cases_eq r row) [
        | inl same ↦ grind (arith, common_steps, nat_tests, hung-one, h.kept, used_by-take old row k t.inside t.free, h.orderly.used row h.partition)
        | inr differs ↦ (used_by-same (with_mark k true old) new r t.taken h.quotas) ∙ used_by-other old row r k true t.inside differs ∙ h.orderly.used r inside ∙ sym (hung-kept r inside (λ same. absurd (differs same)))
      ]
  used_in (Drop k t) r inside =
      let owns : InShare old.quotas row k = (elim h.of_row [ inl f ↦ subst (λ (y : Place). Owns old.quotas y k) f.1 (h.orderly.owned x k h.at t.was) | inr f ↦ subst (λ (y : Place). Owns old.quotas y k) f.1 (h.orderly.owned x k h.at t.was) ]) in
      elim (cases_eq r row) [
        | inl same ↦ grind (arith, common_steps, nat_tests, used_by-give old row k owns (h.orderly.taken x k h.at t.was), hung-one, h.kept, h.orderly.used row h.partition)
        | inr differs ↦ (used_by-same (with_mark k false old) new r t.taken h.quotas) ∙ used_by-other old row r k false owns differs ∙ h.orderly.used r inside ∙ sym (hung-kept r inside (λ same. absurd (differs same)))
      ]

  -- the rest is told of each table's words, and of each page
  pub traded : new.ids ≡ old.ids → ((b : Place) (q i : ℕ) → IsPlace layout b → table_at layout new.words b ≡ Some q → i < 512 → slot layout (level_at b) (new.words q i) ≡ Empty → new.words q i ≡ 0)
      → ((r n : ℕ) → r < length layout.ids → n < 2 ^ 27 → IsTidy n (walk layout new.words r n)) → ((r c : ℕ) → r < length layout.ids → c < 262144 → is_some (table_at layout new.words (Chunk r c)) ≡ is_mixed (answers layout new.words r) c) → IsOrderly layout new
  traded ids clean tidy mixed = record {
    ids = h.orderly.ids ∙ sym ids;
    quotas = h.orderly.quotas ∙ sym h.quotas;
    pages = rw h.quotas h.orderly.pages;
    rows = rw h.quotas h.orderly.rows;
    fits = h.orderly.fits;
    forest = trade-forest;
    taken = trade-taken;
    owned = trade-owned;
    hangs = trade-hangs;
    used = used_in h.trade;
    clean = clean;
    tidy = tidy;
    mixed = mixed;
  }
