use Rattle.std.proofs.Common.{◌≡◌, ◌++◌, length}
use Rattle.std.specs.List.{flat_map}
use Rattle.audit.specs.TableLines.{line_of}
use Rattle.audit.proofs.tables.append_tables.Given as goal

-- with the lines of the entries that are left the text is whole
abbrev pub invariant-loop-entry : goal.invariant-loop-entry
invariant-loop-entry g l = l.text.items ++ flat_map line_of l.left ≡ l.initial.text.items ++ flat_map line_of l.initial.left

abbrev pub decreases-loop-entry : goal.decreases-loop-entry
decreases-loop-entry g l = length l.left
