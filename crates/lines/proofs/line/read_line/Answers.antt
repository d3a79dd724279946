use Rattle.std.proofs.Common.{arith, ◌<◌, length}
use Rattle.std.proofs.lemmas.Grind.{common_steps}
use Rattle.lines.specs.Grammar.{parted_by}
use Rattle.lines.proofs.Ascii.{no_text}
use Rattle.lines.proofs.Many.{too_many, not_nothing, no_line}
use Rattle.lines.proofs.line.read_line.Goals as goal

pub returns-in_default-clause-line : goal.returns-in_default-clause-line
returns-in_default-clause-line c =
    let bytes = c.args.bytes.now in
    let some : 0 < length bytes = grind (arith, common_steps) in
    no_line bytes (not_nothing bytes some c.if-bytes-eq35.false) (no_text bytes c.in_default.ensures.cases.0)

pub returns-in_default-words_of-clause-line : goal.returns-in_default-words_of-clause-line
returns-in_default-words_of-clause-line c =
    let bytes = c.args.bytes.now in
    let some : 0 < length bytes = grind (arith, common_steps) in
    no_line bytes (not_nothing bytes some c.if-bytes-eq35.false) (too_many (parted_by 32 bytes) c.in_default-words_of.ensures)
