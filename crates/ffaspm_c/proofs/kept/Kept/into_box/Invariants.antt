use Rattle.ffaspm_c.proofs.Held.{held}
use Rattle.ffaspm_c.proofs.kept.Kept.into_box.Given as goal

abbrev pub ghost-into_parts : goal.ghost-into_parts
ghost-into_parts g = held g.self.manager
