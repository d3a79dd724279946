use Rattle.std.specs.Int.{w64}
use Rattle.std.proofs.lemmas.Nat.Bits.{bit_at_set_same, bit_at_set_other, bit_at_clear_same, bit_at_clear_other}
use Rattle.marks.proofs.word.with_bit.Goals as goal

pub returns-then-on-clause-here : goal.returns-then-on-clause-here
returns-then-on-clause-here c = rw c.if-on.true (bit_at_set_same w64 c.args.word c.args.place c.requires)

pub returns-then-on-clause-others : goal.returns-then-on-clause-others
returns-then-on-clause-others c = λ i below differs. bit_at_set_other w64 c.args.word c.args.place c.requires i differs

pub returns-else-on-clause-here : goal.returns-else-on-clause-here
returns-else-on-clause-here c = rw c.if-on.false (bit_at_clear_same w64 c.args.word c.args.place c.requires)

pub returns-else-on-clause-others : goal.returns-else-on-clause-others
returns-else-on-clause-others c = λ i below differs. bit_at_clear_other w64 c.args.word c.args.place c.requires i below differs
