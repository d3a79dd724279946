use Rattle.std.proofs.Common.{rules}
use Rattle.script.proofs.Worlds.{same_world}
use Rattle.script.proofs.world.World.boot.Goals as goal

pub returns : goal.returns
returns g c = same_world _ _ _ _ (search rules) (λ p. search rules)
