use Rattle.std.proofs.Common.{◌++◌, subst, sym, ap, ◌∙◌}
use Rattle.std.specs.Str.{IsUtf8}
use Rattle.audit.specs.Texts.{owners_text}
use Rattle.audit.proofs.TextBytes.{owners-utf8}
use Rattle.audit.proofs.owners.owners_text.Goals as goal

pub text_of-requires : goal.text_of-requires
text_of-requires c =
    let text = c.in_ok-append_owners.ensures ∙ ap (λ t. t ++ owners_text c.args.ledger.now.manifest c.args.ledger.now.donations) c.new-text.ensures.items in
    subst IsUtf8 (sym text) (owners-utf8 c.args.ledger.now.manifest c.args.ledger.now.donations)
