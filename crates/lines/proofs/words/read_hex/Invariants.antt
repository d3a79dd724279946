use Rattle.std.proofs.Common.{◌^◌, ◌<◌}
use Rattle.lines.specs.Lines.{is_lower_hex_digit}
use Rattle.lines.proofs.Digits.{Reads}
use Rattle.lines.proofs.words.read_hex.Given as goal

abbrev pub invariant-loop-digit : goal.invariant-loop-digit
invariant-loop-digit l = record {
  reads : Reads is_lower_hex_digit 16 l.digits l.digit-index l.number;
  small : l.number < 16 ^ l.digit-index;
}
