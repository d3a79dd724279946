use Rattle.std.proofs.Common.{arith}
use Rattle.std.proofs.lemmas.Grind.{common_steps}
use Rattle.digits.proofs.HexDigits.{eight_zeros}
use Rattle.script.proofs.replies.push_register.Goals as goal

pub returns-then-register-eq0 : goal.returns-then-register-eq0
returns-then-register-eq0 c = rw (c.if-register-eq0.true, eight_zeros) (grind (arith, common_steps))
