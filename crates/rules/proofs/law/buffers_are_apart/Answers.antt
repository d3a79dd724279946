use Rattle.rules.proofs.Laws.BuffersApart.{buffers_apart}
use Rattle.rules.proofs.law.buffers_are_apart.Goals as goal

pub returns : goal.returns
returns c = buffers_apart
