use Rattle.std.proofs.Common.{◌≡◌, ◌≤◌, false, length, drop}
use Rattle.std.specs.Fmt.{digits_onto, digits}
use Rattle.digits.proofs.hex.fill_end.Given as goal

abbrev pub invariant-loop-i : goal.invariant-loop-i
invariant-loop-i l = (l.i ≤ 64) × (length l.out ≡ 64) × (digits_onto l.i 16 false l.rest (drop l.i l.out) ≡ digits 16 false l.number)

abbrev pub decreases-loop-i : goal.decreases-loop-i
decreases-loop-i l = l.i
