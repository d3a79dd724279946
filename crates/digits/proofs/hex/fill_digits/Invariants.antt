use Rattle.std.proofs.Common.{◌≡◌, ◌≤◌, ◌++◌, length, drop}
use Rattle.digits.proofs.HexDigits.{last_digits}
use Rattle.digits.proofs.hex.fill_digits.Given as goal

abbrev pub invariant-loop-i : goal.invariant-loop-i
invariant-loop-i l = record {
  within : l.i ≤ length l.out;
  digits : last_digits l.i l.rest ++ drop l.i l.out ≡ last_digits (length l.fn.out) l.number;
}

abbrev pub decreases-loop-i : goal.decreases-loop-i
decreases-loop-i l = l.i
