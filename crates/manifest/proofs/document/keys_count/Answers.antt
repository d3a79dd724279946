use Rattle.std.proofs.Common.{◌≡◌, sym, ◌∙◌, ap}
use Rattle.toml.specs.Data.{table}
use Rattle.toml.specs.View.{view, members_view}
use Rattle.toml.proofs.Views.{view-Table}
use Rattle.manifest.specs.Document.{keys_count}
use Rattle.manifest.proofs.Rows.{members_count-view}
use Rattle.manifest.proofs.document.keys_count.Goals as goal

pub returns-in-Table : goal.returns-in-Table
returns-in-Table c =
    let seen : view c.args.value.now ≡ table (members_view c.in-Table.table.entries) = ap view c.in-Table.is ∙ view-Table c.in-Table.table in
    c.len.ensures.len ∙ sym (members_count-view c.in-Table.table.entries) ∙ sym (ap keys_count seen)
