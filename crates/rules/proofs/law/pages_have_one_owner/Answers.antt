use Rattle.rules.proofs.Laws.OneOwner.{owned_once}
use Rattle.rules.proofs.law.pages_have_one_owner.Goals as goal

pub returns : goal.returns
returns c = owned_once
