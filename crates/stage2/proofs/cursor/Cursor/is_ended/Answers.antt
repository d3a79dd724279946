use Rattle.std.proofs.lemmas.Bool.{leb-true}
use Rattle.stage2.proofs.Reading.Cursors.{ended, at-end}
use Rattle.stage2.proofs.cursor.Cursor.is_ended.Goals as goal

pub returns-then-self-eq0 : goal.returns-then-self-eq0
returns-then-self-eq0 c = λ yes pages words level is. ended pages words level c.args.self.now is c.if-self-eq0.true

pub returns-else-self-eq0 : goal.returns-else-self-eq0
returns-else-self-eq0 c = λ yes pages words level is. at-end words c.args.self.now (leb-true 512 c.args.self.now.index yes)
