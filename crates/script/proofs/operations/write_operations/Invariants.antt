use Rattle.std.proofs.Common.{◌≡◌, ◌++◌, length, take}
use Rattle.std.specs.Prelude.{codes}
use Rattle.std.specs.List.{flat_map}
use Rattle.std.specs.Fmt.{decimal}
use Rattle.script.specs.Texts.{operation_text}
use Rattle.script.proofs.operations.write_operations.Given as goal

abbrev pub invariant-loop-operation : goal.invariant-loop-operation
invariant-loop-operation l = l.text.items ≡ l.fn.text.items ++ (codes "ops " ++ decimal (length l.operations) ++ codes "\n" ++ flat_map operation_text (take l.operation-index l.operations))
