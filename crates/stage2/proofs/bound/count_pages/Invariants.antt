use Rattle.stage2.proofs.Names.{pages_in, ℕ, ◌≤◌, take}
use Rattle.stage2.proofs.bound.count_pages.Given as goal

-- the pages of the first runs are counted
abbrev pub invariant-loop-run : goal.invariant-loop-run
invariant-loop-run l = record { pages : (chunk : ℕ) → pages_in (take l.run-index l.list) chunk ≤ l.pages }
