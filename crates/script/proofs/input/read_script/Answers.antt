use Rattle.std.proofs.Common.{ℕ, List, ◌≤◌, ◌++◌, arith, length, length-append, take}
use Rattle.std.proofs.lemmas.Grind.{common_steps}
use Rattle.std.proofs.KnownBytes.{Consumes-trans}
use Rattle.script.proofs.input.read_script.Goals as goal

pub returns-in_err-extend_from_slice-in-Ok-clause-at_most : goal.returns-in_err-extend_from_slice-in-Ok-clause-at_most
returns-in_err-extend_from_slice-in-Ok-clause-at_most g c =
    let script : List ℕ = c.loop-piece.script.items in
    let buf : List ℕ = c.read.new.buf in
    let part : List ℕ = take c.in-Ok.count buf in
    let within : length (script ++ part) ≤ 16777217 = rw (length-append script part) (grind (arith, common_steps)) in
    (script ++ part, within, Consumes-trans _ _ _ _ _ c.loop-piece.invariant.read c.in-Ok.ensures.bytes.0)
