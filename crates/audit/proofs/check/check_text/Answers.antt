use Rattle.std.proofs.Common.{◌++◌, subst, sym, ap, ◌∙◌}
use Rattle.std.specs.Str.{IsUtf8}
use Rattle.audit.specs.Texts.{check_text}
use Rattle.audit.proofs.TextBytes.{check-utf8}
use Rattle.audit.proofs.check.check_text.Goals as goal

pub text_of-requires : goal.text_of-requires
text_of-requires c =
    let text = c.in_ok-append_check.ensures ∙ ap (λ t. t ++ check_text c.args.manifest.now) c.new-text.ensures.items in
    subst IsUtf8 (sym text) (check-utf8 c.args.manifest.now)
