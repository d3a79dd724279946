-- Pages that an edit disturbs, and that keep their answers, have none.
use Rattle.stage2.proofs.Names.{nat_tests, PageRun, in_run, covers, View, is_mixed, edited, touches_run, touches_chunk, AreFree, disturbed, common_steps, ◌≡◌, ◌≢◌, ℕ, ◌+◌, ◌*◌, ◌/◌, ◌^◌, ◌<◌, ◌≤◌, max, true, List, None, arith, ◌⊎◌}
use Rattle.stage2.proofs.Counting.Needs.{mixed-same, equal-first, any-one}
use Rattle.base.proofs.Booleans.{both}

-- ---- a chunk that runs touch has a page of theirs

page-of : (c : ℕ) (run : PageRun) → touches_run c run ≡ true → (x : ℕ) × (x / 512 ≡ c) × (in_run run x ≡ true)
page-of c run t =
    let has : 0 < run.count = grind (arith, nat_tests, t) in
    let from : run.first / 512 ≤ c = grind (arith, nat_tests, t) in
    let to : c < (run.first + run.count + 511) / 512 = grind (arith, nat_tests, t) in
    (max run.first (512 * c), omega (arith, has, from, to), grind (arith, nat_tests, has, from, to))

pub covered-page : (c : ℕ) (runs : List PageRun) → touches_chunk c runs ≡ true → (x : ℕ) × (x / 512 ≡ c) × (covers runs x ≡ true)
covered-page c runs t =
    let one = any-one (touches_run c) runs t in
    let p = page-of c one.0 one.1 in
    (p.0, p.1, one.2 (λ run. in_run run p.0) p.2)

-- ---- steady pages that are disturbed have no answer

module _ (runs : List PageRun) (access : View) (view : ℕ → View) (free : AreFree (λ n. true) runs access view) where
  pub differ-mixed : (v : ℕ → View) (c x y : ℕ) → x / 512 ≡ c → y / 512 ≡ c → v x ≢ v y → is_mixed v c ≡ true
  differ-mixed v c x y at_x at_y differ = grind (arith, common_steps, nat_tests, equal-first)

  pub none-steady : (n : ℕ) → n < 2 ^ 27 → disturbed runs view (edited runs access view) n ≡ true → view n ≡ edited runs access view n
      → ((x : ℕ) → x / 512 ≡ n / 512 → view x ≡ edited runs access view x) ⊎ ((is_mixed view (n / 512) ≡ true) × (is_mixed (edited runs access view) (n / 512) ≡ true)) → view n ≡ None
  none-steady n small w kept chunk = grind (arith, common_steps, nat_tests, covered-page, mixed-same, equal-first, both)
