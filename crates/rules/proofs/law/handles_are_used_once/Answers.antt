use Rattle.rules.proofs.Laws.Handles.{handles_used_once}
use Rattle.rules.proofs.law.handles_are_used_once.Goals as goal

pub returns : goal.returns
returns c = handles_used_once
