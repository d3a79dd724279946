use Rattle.std.proofs.Common.{◌++◌, ap, subst, sym, ◌∙◌}
use Rattle.std.specs.Str.{IsUtf8}
use Rattle.audit.proofs.TextBytes.{audit-utf8}
use Rattle.audit.proofs.audited.audit_text.Goals as goal

pub text_of-requires : goal.text_of-requires
text_of-requires g c =
    let said = c.in_ok-append_audit.ensures in
    let text = said.1.0 ∙ ap (λ t. t ++ said.0) c.new-text.ensures.items in
    subst IsUtf8 (sym text) (audit-utf8 said.0 _ said.1.1)
