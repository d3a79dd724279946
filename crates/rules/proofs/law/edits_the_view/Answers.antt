use Rattle.rules.proofs.Laws.EditsTheView.{edits_the_view}
use Rattle.rules.proofs.law.edits_the_view.Goals as goal

pub returns : goal.returns
returns c = edits_the_view
