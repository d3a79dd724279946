use Rattle.std.proofs.Common.{arith, ◌<◌, ◌≤◌, length, Some, ap, sym, ◌∙◌}
use Rattle.std.proofs.lemmas.Grind.{common_steps}
use Rattle.std.proofs.Math.ListN.{set}
use Rattle.lines.specs.Lines.{texts, number_of}
use Rattle.lines.proofs.Parts.{word_at, reads_more, reads_bad, registers_more, registers_bad, registers_all, length-texts}
use Rattle.lines.proofs.line.read_registers.Goals as goal

pub returns-in_err-registers : goal.returns-in_err-registers
returns-in_err-registers c =
    let words = texts c.args.words.now in
    let at = word_at c.args.words.now c.loop-i.i _ c.loop-i-test.true in
    c.from_residual.ensures ∙ registers_bad words (reads_bad number_of words _ _ _ c.loop-i.invariant.1 at (sym c.read_number.ensures ∙ c.in_err-registers.was))

pub loop-i-preserved : goal.loop-i-preserved
loop-i-preserved c =
    let small : c.loop-i.i < 8 = omega arith in
    let words = texts c.args.words.now in
    let at = word_at c.args.words.now c.loop-i.i _ c.loop-i-test.true in (
      _,
      reads_more number_of words _ _ _ _ c.loop-i.invariant.1 at (sym c.read_number.ensures ∙ c.in_ok-registers.was),
      ap (λ registers. set registers c.loop-i.i c.in_ok-registers.field-0) c.loop-i.invariant.2 ∙ registers_more _ _ _ c.loop-i.invariant.1.count small,
    )

pub returns : goal.returns
returns c =
    let long = length-texts c.args.words.now in
    let some : 1 ≤ length c.args.words.now = grind (arith, common_steps) in
    ap (λ registers. Some registers) c.loop-i.invariant.2
    ∙ registers_all (texts c.args.words.now) _ _ c.loop-i.invariant.1 (omega arith) (omega arith) (omega arith)
