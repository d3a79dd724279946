use Rattle.rules.proofs.Laws.Clears.{cleared_unreached}
use Rattle.rules.proofs.law.cleared_pages_are_unreached.Goals as goal

pub returns : goal.returns
returns c = cleared_unreached
