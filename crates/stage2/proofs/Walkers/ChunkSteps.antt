-- The edits of the chunks of a gigabyte, and of gigabytes, one after another, as walks under way see them.
use Rattle.std.proofs.Common.{◌≡◌, ℕ, ◌+◌, ◌*◌, ◌/◌, ◌<◌, true, false, ◌&&◌, eqb, cond, List, length, arith, ap, sym, ◌∙◌, inr}
use Rattle.stage2.proofs.Names.{nat_tests, PageRun, covers, View, Pool, Pages, Layout, walked, answers, linked, edited, touches_chunk, AreFree, disturbs, disturbed, answers_in, IsUnderway, StaysInStep, IsSeated, disturbed_below, common_steps, eqb-true}
use Rattle.stage2.proofs.Editing.ChunkByChunk.{quotient, still-answers, still-mixed, now-mixed}
use Rattle.stage2.proofs.Walkers.ZeroedTables.{stays-wider, stays-more, stays-as}
use Rattle.stage2.proofs.Walkers.Disturbed.{below-more, disturbs-same}
use Rattle.base.proofs.Booleans.{both}

module _ (layout : Layout) (row g j : ℕ) (runs : List PageRun) (access : View) (old : Pages) (inside : row < length layout.ids) (below : g < 512) (i : ℕ) (lt : i < 512) (mid : Pages) (h : IsUnderway layout row g j i (edited runs access (answers layout (linked layout row g j old).words row)) old mid) where
  pub march-seated : IsSeated layout row g j old → IsSeated layout row ((512 * g + i) / 512) j mid
  march-seated s = rw (quotient layout row g j runs access old inside below i lt mid h) (grind (arith, common_steps, nat_tests))

  pub march-free : AreFree (λ n. eqb (n / 512 / 512) g) runs access (answers layout (linked layout row g j old).words row) → AreFree (λ n. eqb (n / 512) (512 * g + i)) runs access (answers_in layout row (512 * g + i) j mid)
  march-free free n small at covered = grind (arith, common_steps, nat_tests, still-answers)

  pub march-edit : (a b c : Pool) → touches_chunk (512 * g + i) runs ≡ true
      → StaysInStep layout row (disturbed_below g i runs (answers layout (linked layout row g j old).words row) (edited runs access (answers layout (linked layout row g j old).words row))) (λ n. walked n (edited runs access (answers layout (linked layout row g j old).words row) n)) a b
      → StaysInStep layout row (λ n. eqb (n / 512) (512 * g + i) && disturbs runs (answers_in layout row (512 * g + i) j mid) (edited runs access (answers_in layout row (512 * g + i) j mid)) n) (λ n. walked n (edited runs access (answers_in layout row (512 * g + i) j mid) n)) b c
      → StaysInStep layout row (disturbed_below g (i + 1) runs (answers layout (linked layout row g j old).words row) (edited runs access (answers layout (linked layout row g j old).words row))) (λ n. walked n (edited runs access (answers layout (linked layout row g j old).words row) n)) a c
  march-edit a b c touched so here =
      let v : ℕ → View = answers layout (linked layout row g j old).words row in
      let w : ℕ → View = edited runs access v in
      let v2 : ℕ → View = answers_in layout row (512 * g + i) j mid in
      let w2 : ℕ → View = edited runs access v2 in
      let told : StaysInStep layout row (λ n. eqb (n / 512) (512 * g + i) && disturbed runs v w n) (λ n. walked n (w n)) b c =
      stays-wider layout row (λ n. eqb (n / 512) (512 * g + i) && disturbs runs v2 w2 n) (λ n. eqb (n / 512) (512 * g + i) && disturbed runs v w n) (λ n. walked n (w2 n)) (λ n. walked n (w n)) b c here
      (λ n small is.
      let two = both (eqb (n / 512) (512 * g + i)) (disturbs runs v2 w2 n) is in
      let at : n / 512 ≡ 512 * g + i = eqb-true _ _ two.0 in
      let same : disturbs runs v2 w2 n ≡ disturbs runs v w n = disturbs-same (512 * g + i) runs v w v2 w2 n at (still-mixed layout row g j runs access old inside below i lt mid h) (now-mixed layout row g j runs access old inside below i lt mid h) in
      let touches : touches_chunk (n / 512) runs ≡ true = ap (λ x. touches_chunk x runs) at ∙ touched in
      (rw (two.0, touches, sym same) two.1, inr (ap (λ x. walked n (cond (covers runs n) access x)) (still-answers layout row g j runs access old inside below i lt mid h n small at)))) in
      stays-more layout row (disturbed_below g i runs v w) (λ n. eqb (n / 512) (512 * g + i) && disturbed runs v w n) (disturbed_below g (i + 1) runs v w) (λ n. walked n (w n)) a b c so told
      (λ n small. below-more g i runs v w n lt)

  pub march-skip : (a b : Pool) → touches_chunk (512 * g + i) runs ≡ false
      → StaysInStep layout row (disturbed_below g i runs (answers layout (linked layout row g j old).words row) (edited runs access (answers layout (linked layout row g j old).words row))) (λ n. walked n (edited runs access (answers layout (linked layout row g j old).words row) n)) a b
      → StaysInStep layout row (disturbed_below g (i + 1) runs (answers layout (linked layout row g j old).words row) (edited runs access (answers layout (linked layout row g j old).words row))) (λ n. walked n (edited runs access (answers layout (linked layout row g j old).words row) n)) a b
  march-skip a b untouched so =
      let v : ℕ → View = answers layout (linked layout row g j old).words row in
      let w : ℕ → View = edited runs access v in
      stays-as layout row (disturbed_below g i runs v w) (disturbed_below g (i + 1) runs v w) (λ n. walked n (w n)) a b so
      (λ n small. below-more g i runs v w n lt ∙ (grind (arith, common_steps, nat_tests, untouched)))
