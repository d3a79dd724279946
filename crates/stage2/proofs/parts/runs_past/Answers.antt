use Rattle.std.proofs.lemmas.List.{take_rest}
use Rattle.stage2.proofs.Names.{are_normal, ap, ◌∙◌}
use Rattle.stage2.proofs.Runs.Normal.{normal-drop}
use Rattle.stage2.proofs.parts.runs_past.Goals as goal

pub of-requires : goal.of-requires
of-requires c = ap are_normal (take_rest c.list-list.result.now c.ended.result) ∙ normal-drop c.ended.result c.list-list.result.now c.list-list.ensures.normal
