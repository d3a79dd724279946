-- Pages of 4 KB by their numbers, and sets of pages as lists of runs (Arm ARM, VMSAv8-64, 4 KB granule).
use Rattle.std.specs.Prelude.{ℕ, ◌+◌, ◌-◌, ◌/◌, ◌^◌, ◌<◌, ◌≤◌, Bool, true, ◌&&◌, ◌||◌, nat_le, nat_lt, max, List, [], ◌∷◌}
use Rattle.std.specs.List.{list_any, list_all}

-- the pages first, first + 1, .., first + count - 1
pub record PageRun : Type 0 where
  pub first : ℕ
  pub count : ℕ

-- some pages, which end within input addresses of 39 bits
abbrev pub IsRun : PageRun → Type 0
IsRun run = (0 < run.count) × (run.first + run.count ≤ 2 ^ 27)

-- the page is in the run
abbrev pub in_run : PageRun → ℕ → Bool
in_run run n = nat_le run.first n && nat_lt n (run.first + run.count)

-- the page is in one of the runs
abbrev pub covers : List PageRun → ℕ → Bool
covers runs n = list_any (λ run. in_run run n) runs

-- how many chunks of 512 pages (2 MB) the run touches
abbrev pub chunks_in : PageRun → ℕ
chunks_in run = (run.first + run.count - 1) / 512 + 1 - run.first / 512

-- the two share no page
abbrev pub are_apart : PageRun → PageRun → Bool
are_apart a b = nat_le (a.first + a.count) b.first || nat_le (b.first + b.count) a.first

-- no two of them share a page
abbrev pub are_disjoint : List PageRun → Bool
are_disjoint [] = true
are_disjoint (run ∷ runs) = list_all (are_apart run) runs && are_disjoint runs

-- the pages of a run and of one that begins in it, or where it ends
abbrev pub with_run : PageRun → PageRun → PageRun
with_run run next =
    record { first = run.first; count = max (run.first + run.count) (next.first + next.count) - run.first }

-- the runs stand upward: each begins where the one before it ends, or later, and the first at this page or later
abbrev pub rise : ℕ → List PageRun → Bool
rise end [] = true
rise end (run ∷ runs) = nat_le end run.first && rise (run.first + run.count) runs

-- the runs stand upward, and between each and the next there is a page
abbrev pub rise_above : ℕ → List PageRun → Bool
rise_above end [] = true
rise_above end (run ∷ runs) = nat_lt end run.first && rise_above (run.first + run.count) runs

-- the maximal runs of a set of pages, upward
abbrev pub are_normal : List PageRun → Bool
are_normal [] = true
are_normal (run ∷ runs) = rise_above (run.first + run.count) runs
