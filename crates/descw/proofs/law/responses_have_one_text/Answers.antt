use Rattle.descw.proofs.Texts as texts
use Rattle.descw.proofs.law.responses_have_one_text.Goals as goal

pub returns : goal.returns
returns c = texts.responses_have_one_text
