use Rattle.lines.specs.Lines.{texts}
use Rattle.lines.proofs.Ascii.{no_name}
use Rattle.lines.proofs.line.read_named.Goals as goal

pub returns-in_default-clause-line : goal.returns-in_default-clause-line
returns-in_default-clause-line c = no_name c.args.name.now (texts c.args.words.now) c.in_default.ensures.cases.0
