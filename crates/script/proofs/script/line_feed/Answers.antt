use Rattle.lines.proofs.FirstPart.{searched}
use Rattle.script.proofs.script.line_feed.Goals as goal

pub returns : goal.returns
returns c = searched _ _ _ c.memchr.ensures
