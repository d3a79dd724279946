use Rattle.std.proofs.Common.{◌≡◌, ◌++◌, ap, ◌∙◌}
use Rattle.digits.specs.Digits.{hex}
use Rattle.audit.specs.TableLines.{table_line}
use Rattle.audit.proofs.FilledLines.{filled-table}
use Rattle.audit.proofs.table_line.append_table.Goals as goal

pub returns : goal.returns
returns c =
    let page : c.fill_digits.new.out ≡ hex 7 c.args.first = c.fill_digits.ensures ∙ ap (hex 7) c.from.ensures in
    let level = c.number.result in
    let line = filled-table level c.args.first c.fill_digits.new.out c.number.ensures.most c.requires.in_range page ∙ ap (λ l. table_line l c.args.first) c.number.ensures.same in
    c.in_ok-extend_from_slice.ensures.items ∙ ap (λ t. c.args.text.now.items ++ t) line
