use Rattle.stage2.proofs.Runs.Normal.{normal-take}
use Rattle.stage2.proofs.parts.runs_before.Goals as goal

pub of-requires : goal.of-requires
of-requires c = normal-take c.begun.result c.list-list.result.now c.list-list.ensures.normal
