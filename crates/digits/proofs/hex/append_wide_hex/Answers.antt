use Rattle.std.proofs.Common.{arith}
use Rattle.std.proofs.lemmas.Grind.{common_steps}
use Rattle.digits.proofs.HexDigits.{hex_parts}
use Rattle.digits.proofs.hex.append_wide_hex.Goals as goal

pub returns : goal.returns
returns c =
    let w = c.fill_end-first in
    rw (hex_parts c.args.width c.args.number w.result w.new.out w.array_long w.ensures.bound w.ensures.digits) (grind (arith, common_steps))
