use Rattle.pool.proofs.Names.{held, ◌∙◌, ap}
use Rattle.pool.proofs.Held.{held-new}
use Rattle.pool.proofs.block.BlockWordStore.zeroed.Goals as goal

pub returns-in-Ok : goal.returns-in-Ok
returns-in-Ok c = ap held c.in_ok-base.ensures.1 ∙ held-new c.args.count
