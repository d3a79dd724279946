use Rattle.manifest.proofs.Needs.{ReachedUpTo}
use Rattle.manifest.proofs.need.reached_gigabytes.Given as goal

abbrev pub invariant-loop-region : goal.invariant-loop-region
invariant-loop-region l = ReachedUpTo l.regions l.p l.region-index l.tally
