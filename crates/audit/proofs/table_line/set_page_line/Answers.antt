use Rattle.std.proofs.Common.{◌≡◌, ◌/◌, ◌%◌, length, ap, ◌∙◌, arith}
use Rattle.digits.specs.Digits.{hex}
use Rattle.audit.proofs.FilledLines.{exchanged}
use Rattle.audit.proofs.table_line.set_page_line.Goals as goal
use borrow.Rule.Slice.PartMut.{mid_of}

pub returns-then-word-last_word-2 : goal.returns-then-word-last_word-2
returns-then-word-last_word-2 c =
    let low = c.fill_digits.ensures ∙ ap (λ n. hex (length (mid_of 7 3 c.args.line.now)) (n % 4096)) c.from.ensures in
    let near : c.args.last / 4096 ≡ c.args.first / 512 / 8 = omega (arith, c.if-first-last.true) in
    exchanged c.args.last c.args.first c.args.last_word c.args.word c.args.line.now c.fill_digits.new.out c.fill_digits-then-word-last_word-2.new.out c.requires.last_in_range c.requires.in_range (omega (arith, c.ranges.last_word)) (omega (arith, c.ranges.word)) near c.if-word-last_word.true c.if-word-last_word-2.true c.requires.spelled low c.fill_digits-then-word-last_word-2.ensures
