use Rattle.std.proofs.Common.{◌≡◌, ℕ, ◌-◌, List, ◌++◌, replicate}
use Rattle.lines.specs.Lines.{texts, number_of}
use Rattle.lines.proofs.Parts.{Reads}
use Rattle.lines.proofs.line.read_registers.Given as goal

-- the registers that have been read, and zeros
abbrev pub invariant-loop-i : goal.invariant-loop-i
invariant-loop-i l =
    (done : List ℕ) × Reads number_of (texts l.words) l.i done × (l.registers ≡ done ++ replicate (8 - l.i) 0)
