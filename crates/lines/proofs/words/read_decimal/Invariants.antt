use Rattle.std.proofs.Common.{◌^◌, ◌<◌}
use Rattle.lines.specs.Lines.{is_digit}
use Rattle.lines.proofs.Digits.{Reads}
use Rattle.lines.proofs.words.read_decimal.Given as goal

abbrev pub invariant-loop-digit : goal.invariant-loop-digit
invariant-loop-digit l = record {
  reads : Reads is_digit 10 l.digits l.digit-index l.number;
  small : l.number < 2 ^ 32;
}
