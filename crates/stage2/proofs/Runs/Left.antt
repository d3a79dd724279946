-- Whoever goes upward over chunks needs the runs that are left alone: those that do not end before the chunk.
use Rattle.stage2.proofs.Names.{View, is_mixed, PageRun, covers, edited, touches_chunk, grows_at, chunk_runs, chunk_operations, ◌≡◌, ℕ, ◌/◌, not, ◌&&◌, List, refl, sym, ap, ◌∙◌, arith}
use Rattle.stage2.proofs.Counting.Operations.{chunk-same}
use Rattle.stage2.proofs.Runs.Between.{AreLeft}
use Rattle.stage2.proofs.Runs.OwnRuns.{AreOwn, own-chunk, chunk-mixed}

module _ (c : ℕ) (rest runs : List PageRun) (left : AreLeft c rest runs) where
  left-own : AreOwn c rest runs
  left-own =
      let a = own-chunk c rest (chunk_runs c rest) refl in
      let b = own-chunk c runs (chunk_runs c rest) (left.parts c (omega arith)) in
      record { covered = λ n at. sym (a.covered n at) ∙ b.covered n at; count = sym a.count ∙ b.count; touches = sym a.touches ∙ b.touches }

  pub left-covers : (n : ℕ) → n / 512 ≡ c → covers rest n ≡ covers runs n
  left-covers = left-own.covered

  pub left-touches : touches_chunk c rest ≡ touches_chunk c runs
  left-touches = left-own.touches

  pub left-operations : (access : View) (v : ℕ → View) → chunk_operations rest access v c ≡ chunk_operations runs access v c
  left-operations access v = chunk-same runs rest access v v c left-own.covered left-own.count (λ i lt. refl) left-own.touches

  pub left-grows : (access : View) (v : ℕ → View) → grows_at v (edited rest access v) c ≡ grows_at v (edited runs access v) c
  left-grows access v = ap (λ m. m && not (is_mixed v c)) (chunk-mixed c runs rest access left-own.covered v)
