-- The runs with pages from one up to another are found by two halvings, as runs stand upward.
use Rattle.std.proofs.Common.{◌≡◌, ℕ, zero, suc, ◌+◌, ◌*◌, ◌<◌, ◌≤◌, true, false, ◌&&◌, Bool, leb, ltb, List, [], ◌∷◌, get_or, length, take, drop, filter, refl, arith, ap, ◌∙◌, inl, inr}
use Rattle.stage2.proofs.Names.{common_steps, nat_tests, list_any, PageRun, in_run, covers, rise_above, runs_past, runs_before, runs_between, chunk_runs, covers_chunk, any-filter_same, cases_Bool, ltb-true, and_parts}
use Rattle.stage2.proofs.Runs.Normal.{end_of, first_of}

-- those that end behind a page are all from the n-th on, where those before it end too early, and no other does
pub past-halved : (first : ℕ) (runs : List PageRun) (n : ℕ) → ((k : ℕ) (d : PageRun) → k < n → k < length runs → leb (end_of (get_or runs k d)) first ≡ true)
    → ((k : ℕ) (d : PageRun) → n ≤ k → k < length runs → leb (end_of (get_or runs k d)) first ≡ false) → drop n runs ≡ runs_past first runs
past-halved first [] zero early late = refl
past-halved first [] (suc n) early late = refl
past-halved first (r ∷ runs) zero early late =
    let here : leb (end_of r) first ≡ false = late 0 r (omega arith) (omega arith) in
    let behind : ltb first (end_of r) ≡ true = grind (arith, nat_tests) in
    rw behind (ap (λ rest. r ∷ rest) (past-halved first runs zero (λ k d lt _. absurd (omega arith)) (λ k d _ lt. late (suc k) d (omega arith) (omega (arith, lt)))))
past-halved first (r ∷ runs) (suc n) early late =
    let here : leb (end_of r) first ≡ true = early 0 r (omega arith) (omega arith) in
    let out : ltb first (end_of r) ≡ false = grind (arith, nat_tests) in
    rw out (past-halved first runs n (λ k d lt small. early (suc k) d (omega (arith, lt)) (omega (arith, small))) (λ k d le lt. late (suc k) d (omega (arith, le)) (omega (arith, lt))))

-- those that begin before one are the first n, where these begin early enough, and no other does
pub before-halved : (end : ℕ) (runs : List PageRun) (n : ℕ) → ((k : ℕ) (d : PageRun) → k < n → k < length runs → ltb (first_of (get_or runs k d)) end ≡ true)
    → ((k : ℕ) (d : PageRun) → n ≤ k → k < length runs → ltb (first_of (get_or runs k d)) end ≡ false) → take n runs ≡ runs_before end runs
before-halved end [] zero early late = refl
before-halved end [] (suc n) early late = refl
before-halved end (r ∷ runs) zero early late =
    rw (late 0 r (omega arith) (omega arith)) (before-halved end runs zero (λ k d lt _. absurd (omega arith)) (λ k d _ lt. late (suc k) d (omega arith) (omega (arith, lt))))
before-halved end (r ∷ runs) (suc n) early late =
    let here : ltb r.first end ≡ true = early 0 r (omega arith) (omega arith) in
    rw here (ap (λ rest. r ∷ rest) (before-halved end runs n (λ k d lt small. early (suc k) d (omega (arith, lt)) (omega (arith, small))) (λ k d le lt. late (suc k) d (omega (arith, le)) (omega (arith, lt)))))

-- both tests, one after the other
filter-filter : (p q both : PageRun → Bool) → ((r : PageRun) → both r ≡ (p r && q r)) → (runs : List PageRun) → filter q (filter p runs) ≡ filter both runs
filter-filter p q both same [] = refl
filter-filter p q both same (r ∷ runs) = grind (arith, common_steps, nat_tests, same r, filter-filter p q both same runs)

pub between-parts : (first end : ℕ) (runs : List PageRun) → runs_before end (runs_past first runs) ≡ runs_between first end runs
between-parts first end runs = filter-filter (λ r. ltb first (end_of r)) (λ r. ltb r.first end) (λ r. ltb first (end_of r) && ltb r.first end) (λ r. refl) runs

-- of the runs that end behind a page the same ones have a page from a later one on
pub between-past : (page first end : ℕ) (runs : List PageRun) → page ≤ first → runs_between first end (runs_past page runs) ≡ runs_between first end runs
between-past page first end runs le =
    filter-filter (λ r. ltb page (end_of r)) (λ r. ltb first (end_of r) && ltb r.first end) (λ r. ltb first (end_of r) && ltb r.first end) (λ r. grind (arith, nat_tests)) runs

-- and the same chunks are filled
pub fills-past : (page c : ℕ) (runs : List PageRun) → page ≤ 512 * c → covers_chunk c (runs_past page runs) ≡ covers_chunk c runs
fills-past page c runs le = any-filter_same (λ run. leb run.first (512 * c) && leb (512 * c + 512) (run.first + run.count)) (λ run. ltb page (run.first + run.count)) true (λ run fills. grind (arith, nat_tests, fills)) runs

-- from a chunk on it is all one whether these runs are asked or those
pub record AreLeft (c : ℕ) (rest runs : List PageRun) : Type 0 where
  pub parts : (x : ℕ) → c ≤ x → chunk_runs x rest ≡ chunk_runs x runs
  pub fills : (x : ℕ) → c ≤ x → covers_chunk x rest ≡ covers_chunk x runs

pub left-all : (c : ℕ) (runs : List PageRun) → AreLeft c runs runs
left-all c runs = record { parts = λ x le. refl; fills = λ x le. refl }

pub left-later : (c d : ℕ) (rest runs : List PageRun) → c ≤ d → AreLeft c rest runs → AreLeft d rest runs
left-later c d rest runs later left = record { parts = λ x le. left.parts x (omega (arith, later, le)); fills = λ x le. left.fills x (omega (arith, later, le)) }

-- those that end before it are left out
pub left-past : (c page : ℕ) (rest past runs : List PageRun) → page ≡ 512 * c → past ≡ runs_past page rest → AreLeft c rest runs → AreLeft c past runs
left-past c page rest past runs at is left = rw is record {
  parts = λ x le. between-past page (512 * x) (512 * x + 512) rest (omega (arith, at, le)) ∙ left.parts x le;
  fills = λ x le. fills-past page x rest (omega (arith, at, le)) ∙ left.fills x le;
}

-- those that end behind a later page are told of them
pub past-later : (page later : ℕ) (runs : List PageRun) → page ≤ later → runs_past later (runs_past page runs) ≡ runs_past later runs
past-later page later runs le = filter-filter (λ r. ltb page (end_of r)) (λ r. ltb later (end_of r)) (λ r. ltb later (end_of r)) (λ r. grind (arith, nat_tests)) runs

-- no more of them are
pub past-past : (page first : ℕ) (rest past : List PageRun) → page ≡ first → past ≡ runs_past page rest → runs_past first past ≡ past
past-past page first rest past at is = rw (is, ← at) (past-later page page rest (omega arith))

-- ---- the first of runs

-- runs that begin above a page don't have it
pub before-all : (end : ℕ) (runs : List PageRun) (n : ℕ) → rise_above end runs ≡ true → n ≤ end → covers runs n ≡ false
before-all end [] n rises le = refl
before-all end (r ∷ runs) n rises le =
    let both = and_parts (ltb end r.first) (rise_above (end_of r) runs) rises in
    let out : in_run r n ≡ false = grind (arith, nat_tests) in
    rw out (before-all (end_of r) runs n both.1 (omega (arith, ltb-true _ _ both.0, le)))

-- what a run is known to be that is the first of those with pages from one up to another
pub record IsFirstBetween (first end : ℕ) (run : PageRun) (runs : List PageRun) : Type 0 where
  pub reaches : first < end_of run
  pub begins : run.first < end
  pub one_of : (p : PageRun → Bool) → p run ≡ true → list_any p runs ≡ true

pub between-first : (first end : ℕ) (runs : List PageRun) (run : PageRun) → 0 < length (runs_between first end runs) → run ≡ get_or (runs_between first end runs) 0 run → IsFirstBetween first end run runs
between-first first end [] run some is = absurd (omega arith)
between-first first end (r ∷ runs) run some is = elim (cases_Bool (ltb first (end_of r) && ltb r.first end)) [
  | inl meets ↦
      let two = and_parts (ltb first (end_of r)) (ltb r.first end) meets in
      let here : run ≡ r = rw meets at is in
      rw here (record { reaches = ltb-true _ _ two.0; begins = ltb-true _ _ two.1; one_of = λ p holds. rw holds refl })
  | inr out ↦
      let rest = between-first first end runs run (rw out at some) (rw out at is) in
      record { reaches = rest.reaches; begins = rest.begins; one_of = λ p holds. (grind (arith, common_steps, nat_tests)) }
]
