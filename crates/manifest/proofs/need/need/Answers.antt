use Rattle.std.proofs.Common.{◌+◌, ap₂}
use Rattle.base.specs.Need.{need}
use Rattle.manifest.proofs.need.need.Goals as goal

pub returns : goal.returns
unfolding need
returns c = ap₂ (λ a b. a + b) c.reached_gigabytes.ensures.same c.mixed_chunks.ensures.same
