use Rattle.rules.proofs.Laws.SentPages.{transactions_kept}
use Rattle.rules.proofs.law.transactions_keep_their_pages.Goals as goal

pub returns : goal.returns
returns c = transactions_kept
