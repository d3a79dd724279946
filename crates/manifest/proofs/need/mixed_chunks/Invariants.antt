use Rattle.manifest.proofs.Needs.{MixedUpTo}
use Rattle.manifest.proofs.need.mixed_chunks.Given as goal

abbrev pub invariant-loop-region : goal.invariant-loop-region
invariant-loop-region l = MixedUpTo l.regions l.p l.region-index l.tally
