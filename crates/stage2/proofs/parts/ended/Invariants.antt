use Rattle.stage2.proofs.Names.{PageRun, ◌≡◌, ℕ, ◌<◌, leb, true, get_or}
use Rattle.stage2.proofs.Runs.Normal.{end_of}
use Rattle.stage2.proofs.parts.ended.Given as goal

-- so it is with the runs before this one
abbrev pub invariant-loop-index : goal.invariant-loop-index
invariant-loop-index l = record {
  before : (k : ℕ) (d : PageRun) → k < l.index → leb (end_of (get_or l.runs k d)) l.first ≡ true;
}
