-- The pages of the first of some runs.
use Rattle.pool.proofs.Names.{nat_tests, common_steps, PageRun, in_run, covers, ◌≡◌, ℕ, ◌+◌, ◌<◌, ◌≤◌, ◌||◌, List, [], ◌∷◌, take, length, get_or, arith}
use Rattle.std.proofs.lemmas.List.{take_more}
use Rattle.pool.proofs.Gaps.{covers-append}
use Rattle.std.proofs.Math.Seq.{take-length}

pub covers-take : (runs : List PageRun) (i : ℕ) (run : PageRun) (n : ℕ) → i < length runs → run ≡ get_or runs i run → covers (take (i + 1) runs) n ≡ (covers (take i runs) n || in_run run n)
covers-take runs i run n lt is = grind (arith, common_steps, nat_tests, take_more runs i run lt, covers-append (take i runs) (run ∷ []) n)

pub take-all : (runs : List PageRun) (i : ℕ) → length runs ≤ i → i ≤ length runs → take i runs ≡ runs
take-all runs i le ge = let same : i ≡ length runs = omega arith in rw same (take-length runs)
