use Rattle.std.proofs.Common.{sym, ◌∙◌}
use Rattle.std.proofs.lemmas.List.{take_rest}
use Rattle.lines.proofs.FirstPart.{parted_at, unparted}
use Rattle.script.proofs.script.first_line.Goals as goal

pub returns-in-Some-clause-parts : goal.returns-in-Some-clause-parts
returns-in-Some-clause-parts c = rw take_rest (parted_at _ _ _ (sym c.line_feed.ensures ∙ c.in-Some.is))

pub returns-in-None-clause-parts : goal.returns-in-None-clause-parts
returns-in-None-clause-parts c = unparted _ _ (sym c.line_feed.ensures ∙ c.in-None.is)
