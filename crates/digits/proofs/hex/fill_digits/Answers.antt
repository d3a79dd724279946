use Rattle.std.proofs.Common.{◌-◌, ◌++◌, ◌∙◌, List, ℕ, length, ap, arith, append-nil, drop_of_length-le}
use Rattle.std.proofs.Math.ListN.{length-set}
use Rattle.digits.proofs.HexDigits.{last_digits, last_step, hex_fits, all_written}
use Rattle.digits.proofs.hex.fill_digits.Goals as goal

pub loop-i-init : goal.loop-i-init
loop-i-init c =
    let out = c.args.out.now in
    let digits = last_digits (length out) c.args.number in
    record { within = omega arith; digits = ap (λ (ds : List ℕ). digits ++ ds) (drop_of_length-le out {i = length out} (omega arith)) ∙ append-nil digits }

pub loop-i-preserved : goal.loop-i-preserved
loop-i-preserved c =
    let l = c.loop-i in
    record {
      within = omega (arith, length-set l.out (l.i - 1) c.digit.result);
      digits = last_step l.out l.i l.rest _ c.loop-i-test.true l.invariant.within c.digit.ensures ∙ l.invariant.digits;
    }

pub returns : goal.returns
returns c =
    let l = c.loop-i in
    let fits = hex_fits (length c.args.out.now) c.args.number c.requires.some c.requires.fits (omega (arith, c.ranges.number)) in
    all_written l.out l.i l.rest _ _ c.loop-i-test.false l.invariant.digits fits
