use Rattle.std.proofs.Common.{◌≡◌, ◌++◌, take}
use Rattle.std.specs.List.{flat_map}
use Rattle.base.specs.Manifest.{grant}
use Rattle.base.specs.Need.{need}
use Rattle.audit.specs.Texts as spec
use Rattle.audit.proofs.check.append_check.Given as goal

-- the lines of the rows before this one
abbrev pub invariant-loop-row : goal.invariant-loop-row
invariant-loop-row l =
    l.text.items ≡ l.initial.text.items ++ flat_map (λ row. spec.check_line row (need (grant l.manifest row.id))) (take l.row-index l.row-items)
