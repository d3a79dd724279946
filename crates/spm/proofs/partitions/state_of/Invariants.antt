use Rattle.std.proofs.Common.{◌≡◌, drop}
use Rattle.base.specs.State as spec
use Rattle.spm.proofs.partitions.state_of.Given as goal

abbrev pub invariant-loop-state : goal.invariant-loop-state
invariant-loop-state l = spec.state_of (drop l.state-index l.partitions) l.p ≡ spec.state_of l.partitions l.p
