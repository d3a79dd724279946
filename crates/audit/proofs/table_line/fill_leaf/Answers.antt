use Rattle.std.proofs.Common.{◌≡◌, ap, ◌∙◌}
use Rattle.digits.specs.Digits.{hex}
use Rattle.audit.specs.TableLines.{leaf_line}
use Rattle.audit.proofs.FilledLines.{filled-leaf}
use Rattle.audit.proofs.table_line.fill_leaf.Goals as goal

pub returns : goal.returns
returns c =
    let page : c.fill_digits.new.out ≡ hex 7 c.args.first = c.fill_digits.ensures ∙ ap (hex 7) c.from.ensures in
    let level = c.number.result in
    filled-leaf level c.args.first c.args.word c.fill_digits.new.out c.fill_digits-2.new.out c.number.ensures.most c.requires.in_range page c.fill_digits-2.ensures
    ∙ ap (λ l. leaf_line l c.args.first c.args.word) c.number.ensures.same
