use Rattle.std.proofs.Common.{◌-◌, ◌/◌, false, drop, sym, ap, ◌∙◌, drop_of_length-le, arith}
use Rattle.std.specs.Fmt.{digits_onto}
use Rattle.std.proofs.Math.ListN.{length-set}
use Rattle.digits.proofs.HexDigits.{onto_nil, onto_last, onto_step, drop-set-cons}
use Rattle.digits.proofs.hex.fill_end.Goals as goal

pub loop-i-init : goal.loop-i-init
loop-i-init c = (
  omega arith,
  c.told-out,
  ap (digits_onto 64 16 false c.args.number) (drop_of_length-le c.args.out.now {i = 64} (omega (arith, c.told-out))) ∙ onto_nil _,
)

pub loop-i-preserved : goal.loop-i-preserved
loop-i-preserved c =
    let l = c.loop-i in
    let kept = length-set l.out (l.i - 1) c.digit.result ∙ l.invariant.1 in
    let written = ap (digits_onto (l.i - 1) 16 false (l.rest / 16)) (drop-set-cons l.out l.i _ _ c.loop-i-test.true (omega arith) c.digit.ensures) in
    (omega arith, kept, written ∙ sym (onto_step l.rest (drop l.i l.out) l.i c.loop-i-test.true c.if-rest-eq0.false) ∙ l.invariant.2)

pub returns-then-rest-eq0 : goal.returns-then-rest-eq0
returns-then-rest-eq0 c =
    let l = c.loop-i in
    let written = drop-set-cons l.out l.i _ _ c.loop-i-test.true (omega arith) c.digit.ensures in
    record { bound = omega arith; digits = written ∙ sym (onto_last l.rest (drop l.i l.out) l.i c.loop-i-test.true c.if-rest-eq0.true) ∙ l.invariant.2 }
