use Rattle.std.proofs.Common.{arith, refl, ℕ, ◌+◌, ◌*◌, ◌<◌, sym, ◌∙◌, subst}
use Rattle.lines.specs.Lines.{is_lower_hex_digit}
use Rattle.lines.proofs.Digits.{Reads, reads_none, reads_more, told, room}
use Rattle.lines.proofs.words.read_hex.Goals as goal

pub loop-digit-init : goal.loop-digit-init
loop-digit-init c = record { reads = reads_none _ _ _; small = omega arith }

pub overflow_mul-number : goal.overflow_mul-number
overflow_mul-number c =
    let r = room _ _ _ 0 c.loop-digit.invariant.small c.loop-digit-test.true c.requires (omega arith) in
    omega (arith, r.1)

pub overflow_add-number : goal.overflow_add-number
overflow_add-number c =
    let small : c.from.result < 16 = omega (arith, c.in_ok-lower_hex_value.ensures.small, c.from.ensures) in
    let r = room _ _ _ _ c.loop-digit.invariant.small c.loop-digit-test.true c.requires small in
    omega (arith, r.1)

pub loop-digit-preserved : goal.loop-digit-preserved
loop-digit-preserved c =
    let small : c.from.result < 16 = omega (arith, c.in_ok-lower_hex_value.ensures.small, c.from.ensures) in
    let digit = told _ _ _ c.in_ok-lower_hex_value.ensures.value in
    let more = reads_more is_lower_hex_digit 16 c.args.digits.now _ _ _ c.loop-digit-test.true refl digit.0 c.loop-digit.invariant.reads in
    let r = room _ _ _ _ c.loop-digit.invariant.small c.loop-digit-test.true c.requires small in
    record {
      reads = subst (λ (v : ℕ). Reads is_lower_hex_digit 16 c.args.digits.now (c.loop-digit.digit-index + 1) (c.loop-digit.number * 16 + v)) (sym (c.from.ensures ∙ digit.1)) more;
      small = r.0;
    }
