-- The ranges of whole pages.
use Rattle.std.proofs.Common.{◌≡◌, ℕ, ◌+◌, ◌*◌, ◌/◌, ◌%◌, ◌^◌, true, List, [], ◌∷◌, ◌++◌, map, refl, ap, eq-eqb, arith}
use Rattle.std.specs.List.{list_all}
use Rattle.std.proofs.lemmas.Bool.{le-leb}
use Rattle.base.specs.Pages.{PageRun, IsRun}
use Rattle.base.specs.Descriptors.Encoding.{range_text, ranges_text, range_of, runs_text}
use Rattle.descw.specs.Fields.{are_range_fields, runs_of}
use Rattle.descw.specs.Inside.{AreRuns}
use Rattle.base.proofs.Booleans.{and_true}

pub runs_text-ranges : (runs : List PageRun) → runs_text runs ≡ ranges_text (map range_of runs)
runs_text-ranges [] = refl
runs_text-ranges (run ∷ runs) = ap (λ xs. range_text (range_of run) ++ xs) (runs_text-ranges runs)

back : (n : ℕ) → 4096 * n / 4096 ≡ n
back n = omega arith

pub runs_of-ranges : (runs : List PageRun) → runs_of (map range_of runs) ≡ runs
runs_of-ranges [] = refl
runs_of-ranges (run ∷ runs) = rw (back run.first, runs_of-ranges runs) refl

aligned : (n : ℕ) → 4096 * n % 4096 ≡ 0
aligned n = omega arith

is_range-run : (run : PageRun) → IsRun run → are_range_fields (range_of run) ≡ true
is_range-run run is =
    let end = is.1 in
    let first = back run.first in
    and_true _ _ (and_true _ _ (eq-eqb (4096 * run.first % 4096) 0 (aligned run.first)) (le-leb 1 run.count is.0)) (le-leb (4096 * run.first / 4096 + run.count) (2 ^ 27) (rw first is.1))

pub are_ranges-runs : (runs : List PageRun) → AreRuns runs → list_all are_range_fields (map range_of runs) ≡ true
are_ranges-runs [] are = refl
are_ranges-runs (run ∷ runs) are = and_true _ _ (is_range-run run are.0) (are_ranges-runs runs are.1)
