use Rattle.std.proofs.Common.{refl, arith, ◌∙◌}
use Rattle.lines.specs.Lines.{is_digit}
use Rattle.lines.proofs.Digits.{reads_more, told, passed, counted}
use Rattle.lines.proofs.words.read_decimal.Goals as goal

pub returns-in_err-checked_mul : goal.returns-in_err-checked_mul
returns-in_err-checked_mul c =
    let digit = told _ _ _ c.in_ok-value.ensures in
    let more = reads_more is_digit 10 c.args.digits.now _ _ _ c.loop-digit-test.true refl digit.0 c.loop-digit.invariant.reads in
    c.from_residual-in_err-checked_mul.ensures ∙ passed is_digit c.args.digits.now _ _ (omega (arith, c.in_err-checked_mul.ensures)) more

pub returns-in_err-number : goal.returns-in_err-number
returns-in_err-number c =
    let digit = told _ _ _ c.in_ok-value.ensures in
    let more = reads_more is_digit 10 c.args.digits.now _ _ _ c.loop-digit-test.true refl digit.0 c.loop-digit.invariant.reads in
    c.from_residual-in_err-number.ensures ∙ passed is_digit c.args.digits.now _ _ (omega (arith, c.in_err-number.ensures, c.in_ok-checked_mul.ensures.1, digit.1)) more

pub returns : goal.returns
returns c = counted is_digit c.args.digits.now _ _ c.loop-digit-test.false c.loop-digit.invariant.small c.loop-digit.invariant.reads
