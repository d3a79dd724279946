use Rattle.std.proofs.Common.{refl}
use Rattle.stage2.proofs.Reading.Cursors.{over-all}
use Rattle.stage2.proofs.cursor.Cursor.ended.Goals as goal

pub returns : goal.returns
returns c = λ pages words. over-all pages words c.args.level _ refl refl refl
