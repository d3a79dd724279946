-- Runs that stand in ascending order, or in descending order.
use Rattle.std.specs.Prelude.{ℕ, ◌+◌, ◌<◌, Bool, true, ◌&&◌, nat_le, List, [], ◌∷◌}
use Rattle.std.specs.List.{All}
use Rattle.base.specs.Pages.{PageRun}

-- each begins where the one before it ends, or later, and the first at this page or later
abbrev pub follow : ℕ → List PageRun → Bool
follow end [] = true
follow end (run ∷ runs) = nat_le end run.first && follow (run.first + run.count) runs

-- each ends where the one before it begins, or earlier, and the first at this page or earlier
abbrev pub fall : ℕ → List PageRun → Bool
fall start [] = true
fall start (run ∷ runs) = nat_le (run.first + run.count) start && fall run.first runs

-- each has a page
abbrev pub AreAllSome : List PageRun → Type 0
AreAllSome runs = All (λ run. 0 < run.count) runs
