use Rattle.desk.proofs.Moves.{begins}
use Rattle.desk.proofs.pass.open.Goals as goal

pub of_words-requires : goal.of_words-requires
of_words-requires c = begins
