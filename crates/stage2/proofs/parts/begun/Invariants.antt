use Rattle.stage2.proofs.Names.{PageRun, ◌≡◌, ℕ, ◌<◌, ltb, true, get_or}
use Rattle.stage2.proofs.Runs.Normal.{first_of}
use Rattle.stage2.proofs.parts.begun.Given as goal

-- so it is with the runs before this one
abbrev pub invariant-loop-index : goal.invariant-loop-index
invariant-loop-index l = record {
  before : (k : ℕ) (d : PageRun) → k < l.index → ltb (first_of (get_or l.runs k d)) l.end ≡ true;
}
