use Rattle.std.proofs.Common.{arith, ◌<◌, length, ⊎_elim}
use Rattle.std.proofs.lemmas.Grind.{common_steps}
use Rattle.lines.proofs.Hex.{copied, copy_long, copy_bad}
use Rattle.lines.proofs.line.read_copy.Goals as goal

pub returns-in-Ok-clause-copy : goal.returns-in-Ok-clause-copy
returns-in-Ok-clause-copy c =
    let digits : 0 < length c.args.hex.now = grind (arith, common_steps) in
    copied c.args.hex.now c.in-Ok.bytes.items digits c.in-Ok.ensures.ok (omega (arith, c.len.ensures, c.if-len-le-MOST_TX.true))

pub returns-in-Ok-2-clause-copy : goal.returns-in-Ok-2-clause-copy
returns-in-Ok-2-clause-copy c = copy_long c.args.hex.now c.in-Ok.bytes.items c.in-Ok.ensures.ok (omega (arith, c.len.ensures, c.if-len-le-MOST_TX.false))

pub returns-in_default-clause-copy : goal.returns-in_default-clause-copy
returns-in_default-clause-copy c = ⊎_elim (λ memory. absurd (c.in_default.not-OutOfMemory memory)) (λ bad. copy_bad c.args.hex.now c.in-Err.error bad) c.in-Err.ensures.err
