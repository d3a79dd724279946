-- An edit asks of a chunk, or of a gigabyte, only those of the runs that have pages there: it edits it as all runs do.
use Rattle.std.proofs.Common.{◌≡◌, ℕ, ◌+◌, ◌*◌, ◌/◌, ◌<◌, ◌≤◌, max, min, Bool, true, false, not, ◌&&◌, ◌||◌, cond, eqb, ltb, List, [], ◌∷◌, refl, arith, ap, ap₂, sym, ◌∙◌, inl, inr}
use Rattle.stage2.proofs.Names.{common_steps, option_map_or, nat_tests, View, is_mixed, PageRun, in_run, covers, Pool, Pages, Walked, edited, touches_run, touches_chunk, AreFree, Turns, disturbs, disturbed, Redoes_in, IsGrowing, gigabyte_growth, FitsGigabyte, EditsGigabyte, StaysInStep, answers, part_in, part_count, runs_between, chunk_runs, gigabyte_runs, gigabyte_operations, Layout, walk, walked, cases_Bool, eqb-true, any-filter_same}
use Rattle.std.proofs.lemmas.List.Sums.{sum_by-cons}
use Rattle.pool.proofs.Count.{count_below-same}
use Rattle.stage2.proofs.Walkers.ZeroedTables.{stays-wider}
use Rattle.stage2.proofs.Counting.Needs.{mixed-same, reached-same}
use Rattle.stage2.proofs.Counting.Operations.{sum-same, chunk-same}
use Rattle.base.proofs.Booleans.{both}

-- ---- the runs with pages from one up to another

-- the parts of a run in a chunk: one, or none
abbrev parts : ℕ → PageRun → ℕ
parts c run = option_map_or (λ part. 1) (part_in c run) 0

module _ (first end : ℕ) where
  abbrev meets : PageRun → Bool
  meets run = ltb first (run.first + run.count) && ltb run.first end

  pub covers-between : (runs : List PageRun) (n : ℕ) → first ≤ n → n < end → covers (runs_between first end runs) n ≡ covers runs n
  covers-between runs n from to = any-filter_same (λ run. in_run run n) meets true (λ run inside. grind (arith, nat_tests, inside)) runs

  pub touches-between : (runs : List PageRun) (c : ℕ) → first ≤ 512 * c → 512 * c + 512 ≤ end → touches_chunk c (runs_between first end runs) ≡ touches_chunk c runs
  touches-between runs c from to = any-filter_same (touches_run c) meets true (λ run inside. grind (arith, nat_tests, inside)) runs

  no-part : (c : ℕ) → first ≤ 512 * c → 512 * c + 512 ≤ end → (run : PageRun) → meets run ≡ false → parts c run ≡ 0
  unfolding part_in
  no-part c from to run out = let none : ltb (max run.first (512 * c)) (min (run.first + run.count) (512 * c + 512)) ≡ false = grind (arith, nat_tests) in rw none refl

  pub count-between : (runs : List PageRun) (c : ℕ) → first ≤ 512 * c → 512 * c + 512 ≤ end → part_count c (runs_between first end runs) ≡ part_count c runs
  count-between [] c from to = refl
  count-between (run ∷ runs) c from to =
      let rest = count-between runs c from to in
      elim (cases_Bool (meets run)) [
        | inl t ↦ rw (t, sum_by-cons (parts c) run (runs_between first end runs), sum_by-cons (parts c) run runs) (ap (λ x. parts c run + x) rest)
        | inr out ↦ rw (out, sum_by-cons (parts c) run runs, no-part c from to run out) (omega (arith, rest))
      ]

-- ---- a chunk

in_case : (b : Bool) (x y other : Walked) → (b ≡ true → x ≡ y) → cond b x other ≡ cond b y other
in_case b x y other same = grind (arith, common_steps, nat_tests, same)

module _ (c : ℕ) (runs part : List PageRun) (access : View) (same : (n : ℕ) → n / 512 ≡ c → covers part n ≡ covers runs n) where
  edited-same : (v : ℕ → View) (n : ℕ) → n / 512 ≡ c → edited part access v n ≡ edited runs access v n
  edited-same v n at = ap (λ b. cond b access (v n)) (same n at)

  pub chunk-mixed : (v : ℕ → View) → is_mixed (edited part access v) c ≡ is_mixed (edited runs access v) c
  chunk-mixed v = mixed-same (edited runs access v) (edited part access v) c (λ i small. edited-same v (512 * c + i) (omega (arith, small)))

  pub chunk-growing : (v : ℕ → View) → IsGrowing v (edited part access v) c → IsGrowing v (edited runs access v) c
  chunk-growing v h = record { now = sym (chunk-mixed v) ∙ h.now; was = h.was }

  pub chunk-free : (v : ℕ → View) → AreFree (λ n. eqb (n / 512) c) runs access v → AreFree (λ n. eqb (n / 512) c) part access v
  chunk-free v free n small at covered = free n small at (sym (same n (eqb-true _ _ at)) ∙ covered)

  disturbs-part : (v : ℕ → View) (n : ℕ) → n / 512 ≡ c → disturbs part v (edited part access v) n ≡ disturbs runs v (edited runs access v) n
  disturbs-part v n at = ap₂ (λ x y. x || not (is_mixed v (n / 512) && y)) (same n at) (ap (is_mixed (edited part access v)) at ∙ chunk-mixed v ∙ sym (ap (is_mixed (edited runs access v)) at))

module _ (layout : Layout) (row c : ℕ) (runs part : List PageRun) (access : View) (same : (n : ℕ) → n / 512 ≡ c → covers part n ≡ covers runs n) where
  pub chunk-redoes : (j : ℕ) (v : ℕ → View) (old new : Pages) → Redoes_in layout row c j (edited part access v) old new → Redoes_in layout row c j (edited runs access v) old new
  chunk-redoes j v old new h = record { redoes = (grind (arith, common_steps, nat_tests, in_case, edited-same, same, both)); root = h.root }

  pub chunk-stays : (v : ℕ → View) (a b : Pool) → StaysInStep layout row (λ n. eqb (n / 512) c && disturbs part v (edited part access v) n) (λ n. walked n (edited part access v n)) a b
      → StaysInStep layout row (λ n. eqb (n / 512) c && disturbs runs v (edited runs access v) n) (λ n. walked n (edited runs access v n)) a b
  chunk-stays v a b so =
      stays-wider layout row (λ n. eqb (n / 512) c && disturbs part v (edited part access v) n) (λ n. eqb (n / 512) c && disturbs runs v (edited runs access v) n) (λ n. walked n (edited part access v n)) (λ n. walked n (edited runs access v n)) a b so
      (λ n small w.
      let two = both (eqb (n / 512) c) (disturbs part v (edited part access v) n) w in
      let at = eqb-true _ _ two.0 in
      (ap₂ (λ x y. x && y) two.0 (sym (disturbs-part c runs part access same v n at) ∙ two.1), inr (ap (walked n) (edited-same c runs part access same v n at))))

-- of a chunk it is all one whether these runs are asked or those
pub record AreOwn (c : ℕ) (part runs : List PageRun) : Type 0 where
  pub covered : (n : ℕ) → n / 512 ≡ c → covers part n ≡ covers runs n
  pub count : part_count c part ≡ part_count c runs
  pub touches : touches_chunk c part ≡ touches_chunk c runs

pub own-chunk : (c : ℕ) (runs part : List PageRun) → part ≡ chunk_runs c runs → AreOwn c part runs
own-chunk c runs part is = record {
  covered = λ n at. ap (λ rs. covers rs n) is ∙ covers-between (512 * c) (512 * c + 512) runs n (omega (arith, at)) (omega (arith, at));
  count = ap (part_count c) is ∙ count-between (512 * c) (512 * c + 512) runs c (omega arith) (omega arith);
  touches = ap (touches_chunk c) is ∙ touches-between (512 * c) (512 * c + 512) runs c (omega arith) (omega arith);
}

-- ---- a gigabyte

module _ (g : ℕ) (runs part : List PageRun) (is : part ≡ gigabyte_runs g runs) where
  pub gigabyte-covers : (n : ℕ) → n / 512 / 512 ≡ g → covers part n ≡ covers runs n
  gigabyte-covers n at = ap (λ rs. covers rs n) is ∙ covers-between (262144 * g) (262144 * g + 262144) runs n (omega (arith, at)) (omega (arith, at))

  gigabyte-touches : (c : ℕ) → c / 512 ≡ g → touches_chunk c part ≡ touches_chunk c runs
  gigabyte-touches c at = ap (touches_chunk c) is ∙ touches-between (262144 * g) (262144 * g + 262144) runs c (omega (arith, at)) (omega (arith, at))

  pub gigabyte-operations : (access : View) (v : ℕ → View) → gigabyte_operations part access v g ≡ gigabyte_operations runs access v g
  gigabyte-operations access v = grind (arith, common_steps, nat_tests, sum-same, chunk-same, gigabyte-covers, count-between, gigabyte-touches)

module _ (g : ℕ) (runs part : List PageRun) (access : View) (is : part ≡ gigabyte_runs g runs) where
  same : (n : ℕ) → n / 512 / 512 ≡ g → covers part n ≡ covers runs n
  same = gigabyte-covers g runs part is

  all-same : (v : ℕ → View) (n : ℕ) → n / 512 / 512 ≡ g → edited part access v n ≡ edited runs access v n
  all-same v n at = ap (λ b. cond b access (v n)) (same n at)

  pub gigabyte-growth : (v : ℕ → View) → gigabyte_growth v (edited part access v) g ≡ gigabyte_growth v (edited runs access v) g
  gigabyte-growth v = grind (arith, common_steps, nat_tests, reached-same, all-same, count_below-same, chunk-mixed, same)

module _ (layout : Layout) (row g : ℕ) (runs part : List PageRun) (access : View) (is : part ≡ gigabyte_runs g runs) where
  pub gigabyte-fits : (m : Pages) → FitsGigabyte layout row g runs access m → FitsGigabyte layout row g part access m
  gigabyte-fits m h = let e = gigabyte-growth g runs part access is (answers layout m.words row) in record { fits = rw e h.fits }

  pub gigabyte-edits : (old new : Pages) → EditsGigabyte layout row g (edited part access (answers layout old.words row)) old new → EditsGigabyte layout row g (edited runs access (answers layout old.words row)) old new
  gigabyte-edits old new h = let v = answers layout old.words row in record {
    canonical = h.canonical;
    ids = h.ids;
    quotas = h.quotas;
    walks = λ q n small. h.walks q n small
        ∙ in_case (eqb q row && eqb (n / 512 / 512) g) (walked n (edited part access v n)) (walked n (edited runs access v n)) (walk layout old.words q n)
        (λ e. ap (walked n) (all-same g runs part access is v n (eqb-true _ _ (both (eqb q row) (eqb (n / 512 / 512) g) e).1)));
    used = rw (gigabyte-growth g runs part access is v) at h.used;
  }

  pub gigabyte-free : (v : ℕ → View) → AreFree (λ n. eqb (n / 512 / 512) g) runs access v → AreFree (λ n. eqb (n / 512 / 512) g) part access v
  gigabyte-free v free n small at covered = free n small at (sym (same g runs part access is n (eqb-true _ _ at)) ∙ covered)

  pub gigabyte-turns : (v : ℕ → View) → Turns (λ n. eqb (n / 512 / 512) g) runs access v → Turns (λ n. eqb (n / 512 / 512) g) part access v
  gigabyte-turns v turns n at covered = turns n at (sym (same g runs part access is n (eqb-true _ _ at)) ∙ covered)

  disturbed-same : (v : ℕ → View) (n : ℕ) → n / 512 / 512 ≡ g → disturbed part v (edited part access v) n ≡ disturbed runs v (edited runs access v) n
  disturbed-same v n at = ap₂ (λ x y. x && y) (gigabyte-touches g runs part is (n / 512) at) (disturbs-part (n / 512) runs part access (λ m here. same g runs part access is m (ap (λ x. x / 512) here ∙ at)) v n refl)

  pub gigabyte-stays : (v : ℕ → View) (a b : Pool) → StaysInStep layout row (λ n. eqb (n / 512 / 512) g && disturbed part v (edited part access v) n) (λ n. walked n (edited part access v n)) a b
      → StaysInStep layout row (λ n. eqb (n / 512 / 512) g && disturbed runs v (edited runs access v) n) (λ n. walked n (edited runs access v n)) a b
  gigabyte-stays v a b so = grind (arith, common_steps, nat_tests, stays-wider, both, disturbed-same, all-same)
