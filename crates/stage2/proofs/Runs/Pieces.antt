-- Chunks before that of the first of runs are not touched.
use Rattle.stage2.proofs.Names.{common_steps, nat_tests, PageRun, touches_chunk, lie_within, runs_past, cases_Bool, ◌≡◌, ℕ, ◌+◌, ◌*◌, ◌≤◌, true, false, List, sym, ◌∙◌, ◌⊎◌, inl, inr, arith}
use Rattle.stage2.proofs.Runs.Between.{left-all, left-later, left-past}
use Rattle.stage2.proofs.Runs.Left.{left-touches}
use Rattle.stage2.proofs.Runs.Normal.{any-within}

-- the runs that end behind a chunk's first page lie between these pages
pub apart-before : (g index start first end : ℕ) (runs past : List PageRun) → start ≡ 512 * (512 * g + index) → past ≡ runs_past start runs → lie_within first end past ≡ true
    → (x : ℕ) → index ≤ x → (512 * (512 * g + x) + 512 ≤ first) ⊎ (end ≤ first) → touches_chunk (512 * g + x) runs ≡ false
apart-before g index start first end runs past at is within x from out =
    let left = left-later (512 * g + index) (512 * g + x) past runs (omega (arith, from)) (left-past (512 * g + index) start runs past runs at is (left-all (512 * g + index) runs)) in
    sym (left-touches (512 * g + x) past runs left) ∙ elim (cases_Bool (touches_chunk (512 * g + x) past)) [
      | inr f ↦ f
      | inl t ↦ grind (arith, common_steps, nat_tests, any-within)
    ]
