use Rattle.std.proofs.Common.{Some, ap, sym, ◌∙◌}
use Rattle.spm.specs.Machine.{Machine}
use Rattle.ffaspm_c.proofs.Held.{held_is}
use Rattle.ffaspm_c.proofs.kept.Kept.into_box.Goals as goal

pub into_parts-requires : goal.into_parts-requires
into_parts-requires c = held_is c.args.self.manager c.requires

pub returns : goal.returns
returns c =
    held_is c.args.self.manager c.requires
    ∙ ap (λ (m : Machine). Some m) (sym (c.into_box.ensures ∙ c.into_parts.ensures))
