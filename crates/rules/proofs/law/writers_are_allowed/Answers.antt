use Rattle.rules.proofs.Laws.Writers.{writers_allowed}
use Rattle.rules.proofs.law.writers_are_allowed.Goals as goal

pub returns : goal.returns
returns c = writers_allowed
