use Rattle.rules.proofs.Laws.History.{owned_as_given}
use Rattle.rules.proofs.law.last_donation_decides.Goals as goal

pub returns : goal.returns
returns c = owned_as_given
