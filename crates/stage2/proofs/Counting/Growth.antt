-- What an edit takes, read from the words.
use Rattle.stage2.proofs.Names.{Slot, nat_tests, common_steps, PageRun, covers, View, Pages, count_below, Layout, Next, slot, at_2, next_page, Gigabyte, Chunk, table_at, is_mixed, is_reached, IsCanonical, answer_of, edited, answers_at, answers_of, second_of, entry_in, covers_chunk, IsSite, IsWordFor, grows_at, gigabyte_growth, Touches, chunk_operations}
use Rattle.std.proofs.Common.{◌≡◌, ℕ, ◌+◌, ◌*◌, ◌/◌, ◌%◌, ◌<◌, true, false, not, ◌&&◌, cond, is_some, List, Option, Some, None, length, refl, arith, ap, ap₂, sym, subst, ◌∙◌}
use Rattle.pool.proofs.Shares.{share_inside}
use Rattle.pool.proofs.Count.{count_below-none}
use Rattle.stage2.proofs.Tree.WalkFrame.{walk-gigabyte}
use Rattle.stage2.proofs.Counting.Operations.{plain}
use Rattle.stage2.proofs.Counting.Needs.{filled-touches, outcome-filled, mixed-same, mixed-none, reached-same, reached-none}
use Rattle.stage2.proofs.Editing.FourChunkEdits.{third-taken}
use Rattle.stage2.proofs.Editing.Spelled.{spelled-words}
use Rattle.stage2.proofs.Editing.Gigabyte.{linked-same, touched-growth}
use Rattle.stage2.proofs.Editing.RootLinks.{untabled}

-- a chunk of a partition that may have no root, and the table of its gigabyte if there is one
pub record IsRead (layout : Layout) (m : Pages) (row second : Option ℕ) (c : ℕ) : Type 0 where
  pub canonical : IsCanonical layout m
  pub inside : (r : ℕ) → row ≡ Some r → r < length layout.ids
  pub below : c < 262144
  pub hangs : second_of layout m.words row (c / 512) ≡ second

-- the chunk at a place of a gigabyte
pub read-at : {layout : Layout} {m : Pages} {row second : Option ℕ} (canonical : IsCanonical layout m) (inside : (r : ℕ) → row ≡ Some r → r < length layout.ids) (g i : ℕ) → g < 512 → i < 512 → second_of layout m.words row g ≡ second → IsRead layout m row second (512 * g + i)
read-at {layout} {m} {row} canonical inside g i below lt e =
    record { canonical = canonical; inside = inside; below = omega (arith, below, lt); hangs = (let at : (512 * g + i) / 512 ≡ g = omega (arith, lt) in ap (second_of layout m.words row) at ∙ e) }

module _ {layout : Layout} {m : Pages} {c : ℕ} where
  -- what its pages answer, read from its word on
  pub entry-view : (row second : Option ℕ) → IsRead layout m row second c → (n : ℕ) → n / 512 ≡ c → answers_at layout m.words (entry_in layout m.words second (c % 512)) n ≡ answers_of layout m.words row n
  entry-view None None h n at = refl
  entry-view None (Some j) h n at = let e = h.hangs in absurd (cc)
  entry-view (Some r) None h n at =
      let below = h.below in
      ap answer_of (sym (untabled layout m r n h.canonical.orderly (h.inside r refl) (omega (arith, at, below)) (ap (λ x. table_at layout m.words (Gigabyte r (x / 512))) at ∙ h.hangs)))
  entry-view (Some r) (Some j) h n at =
      ap answer_of (sym (walk-gigabyte layout m.words r n j (h.inside r refl) (ap (λ x. table_at layout m.words (Gigabyte r (x / 512))) at ∙ h.hangs) ∙ ap (λ x. at_2 layout m.words n (slot layout 2 (m.words j (x % 512)))) at))

  table-read : (r : ℕ) (second : Option ℕ) → IsRead layout m (Some r) second c → table_at layout m.words (Chunk r c) ≡ next_page (entry_in layout m.words second (c % 512))
  unfolding table_at
  table-read r second h = let e = h.hangs in grind (arith, common_steps, nat_tests)

  -- a table hangs there exactly where they are not all alike
  pub entry-mixed : (row second : Option ℕ) → IsRead layout m row second c → is_mixed (answers_of layout m.words row) c ≡ is_some (next_page (entry_in layout m.words second (c % 512)))
  entry-mixed None None h = mixed-none (answers_of layout m.words None) c (λ x small. refl)
  entry-mixed None (Some j) h = let e = h.hangs in absurd (cc)
  entry-mixed (Some r) second h = sym (h.canonical.orderly.mixed r c (h.inside r refl) h.below) ∙ ap (λ o. is_some o) (table-read r second h)

  -- where it stands
  site-at : (row second : Option ℕ) → IsRead layout m row second c → (k : ℕ) → entry_in layout m.words second (c % 512) ≡ Next k → (r : ℕ) × (j : ℕ) × IsSite layout r c j m × (slot layout 2 (m.words j (c % 512)) ≡ Next k)
  site-at row None h k next = absurd (cc)
  site-at None (Some j) h k next = let e = h.hangs in absurd (cc)
  site-at (Some r) (Some j) h k next = (r, j, (let e = h.hangs in let below = h.below in let partition = h.inside r refl in let canonical = h.canonical in grind (arith, common_steps, nat_tests, linked-same)), next)

module _ {layout : Layout} {m : Pages} {row second : Option ℕ} {c : ℕ} (h : IsRead layout m row second c) where
  abbrev entry : Slot
  entry = entry_in layout m.words second (c % 512)

  pub view-same : (i : ℕ) → i < 512 → answers_at layout m.words entry (512 * c + i) ≡ answers_of layout m.words row (512 * c + i)
  view-same i lt = entry-view row second h (512 * c + i) (omega (arith, lt))

  pub view-mixed : is_mixed (answers_at layout m.words entry) c ≡ is_some (next_page entry)
  view-mixed = mixed-same (answers_of layout m.words row) (answers_at layout m.words entry) c view-same ∙ entry-mixed row second h

  -- a chunk that grows, read from its word on
  pub grows-entry : (runs : List PageRun) (access : View) → (is_mixed (edited runs access (answers_at layout m.words entry)) c && not (is_some (next_page entry))) ≡ grows_at (answers_of layout m.words row) (edited runs access (answers_of layout m.words row)) c
  grows-entry runs access =
      ap₂ (λ a b. a && not b)
      (mixed-same (edited runs access (answers_of layout m.words row)) (edited runs access (answers_at layout m.words entry)) c (λ i small. ap (λ a. cond (covers runs (512 * c + i)) access a) (view-same i small)))
      (sym (entry-mixed row second h))

  -- where no table hangs, a chunk that a run fills takes three operations on its own word
  pub filled-operations : (runs : List PageRun) (access : View) → next_page entry ≡ None → covers_chunk c runs ≡ true → chunk_operations runs access (answers_of layout m.words row) c ≡ 3
  filled-operations runs access none filled =
      let v = answers_of layout m.words row in
      ap₂ (λ t k. cond t (3 + k) 0) (filled-touches runs c filled) (plain runs access v c access (entry-mixed row second h ∙ ap (λ o. is_some o) none) (outcome-filled runs access v c filled))

  -- each word of the table is the one for its page's answer
  pub view-spelled : (k : ℕ) → entry ≡ Next k → (n : ℕ) → n / 512 ≡ c → IsWordFor n (answers_at layout m.words (Next k) n) (m.words k (n % 512))
  view-spelled k next n at = let s = site-at row second h k next in spelled-words s.2 k s.3 n at

  -- which is taken
  pub view-taken : (k : ℕ) → entry ≡ Next k → m.taken k ≡ true
  view-taken k next = let s = site-at row second h k next in third-taken s.2 k s.3

-- a chunk that a run fills takes no table
pub filled-grows : (v : ℕ → View) (runs : List PageRun) (access : View) (c : ℕ) → covers_chunk c runs ≡ true → grows_at v (edited runs access v) c ≡ false
filled-grows v runs access c filled = sym (ap (λ b. b && not (is_mixed v c)) (outcome-filled runs access v c filled).mixed)

module _ {layout : Layout} {m : Pages} (canonical : IsCanonical layout m) {g : ℕ} (below : g < 512) where
  pub reached-second : (row : Option ℕ) → ((r : ℕ) → row ≡ Some r → r < length layout.ids) → is_some (second_of layout m.words row g) ≡ is_reached (answers_of layout m.words row) g
  reached-second None inside = let nothing : ℕ → View = answers_of layout m.words None in sym (reached-none nothing g (λ i small. refl))
  reached-second (Some row) inside = canonical.reached row g (inside row refl) below

  -- the level 2 table is a page of the pool, which is taken
  pub second-page : (row : Option ℕ) → ((r : ℕ) → row ≡ Some r → r < length layout.ids) → (j : ℕ) → second_of layout m.words row g ≡ Some j → (j < layout.pages) × (m.taken j ≡ true)
  second-page None inside j e = absurd (cc)
  second-page (Some row) inside j e =
      (subst (λ x. j < x) (sym canonical.orderly.pages) (share_inside m.quotas row j (canonical.orderly.owned (Gigabyte row g) j (inside row refl, below) e)), canonical.orderly.taken (Gigabyte row g) j (inside row refl, below) e)

  -- of a gigabyte
  module _ (row : Option ℕ) (inside : (r : ℕ) → row ≡ Some r → r < length layout.ids) (runs : List PageRun) where
    abbrev before : ℕ → View
    before = answers_of layout m.words row

    -- that has none, one is taken where pages are mapped
    pub growth-mapped : (access : View) → Touches runs g → second_of layout m.words row g ≡ None → is_some access ≡ true
        → gigabyte_growth (answers_of layout m.words row) (edited runs access (answers_of layout m.words row)) g ≡ count_below (λ x. grows_at (answers_of layout m.words row) (edited runs access (answers_of layout m.words row)) (512 * g + x)) 512 + 1
    growth-mapped access touches none maps =
        touched-growth runs access before touches maps (sym (reached-second row inside) ∙ ap (λ o. is_some o) none) ∙ omega arith

    -- and none where pages are unmapped
    pub growth-unmapped : second_of layout m.words row g ≡ None
        → gigabyte_growth (answers_of layout m.words row) (edited runs None (answers_of layout m.words row)) g ≡ count_below (λ x. grows_at (answers_of layout m.words row) (edited runs None (answers_of layout m.words row)) (512 * g + x)) 512
    growth-unmapped none = grind (arith, common_steps, nat_tests, reached-same, untabled)

-- ---- what the runs leave alone takes nothing

pub grows-nothing : (runs : List PageRun) (access : View) (v : ℕ → View) (c : ℕ) → ((n : ℕ) → n / 512 ≡ c → covers runs n ≡ false) → grows_at v (edited runs access v) c ≡ false
grows-nothing runs access v c none = grind (arith, common_steps, nat_tests, mixed-same)

pub growth-nothing : (runs : List PageRun) (access : View) (v : ℕ → View) (g : ℕ) → ((n : ℕ) → n / 512 / 512 ≡ g → covers runs n ≡ false) → gigabyte_growth v (edited runs access v) g ≡ 0
growth-nothing runs access v g none = grind (arith, common_steps, nat_tests, count_below-none, grows-nothing, reached-same)
