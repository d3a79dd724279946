use Rattle.std.proofs.Common.{◌++◌, subst, sym, ap, ◌∙◌}
use Rattle.std.specs.Str.{IsUtf8}
use Rattle.stage2.specs.Tables.{view_of}
use Rattle.audit.specs.Texts.{tables_text}
use Rattle.audit.proofs.TextBytes.{tables-utf8}
use Rattle.audit.proofs.tables.tables_text.Goals as goal

pub text_of-requires : goal.text_of-requires
text_of-requires g c =
    let text = c.in_ok-append_tables.ensures ∙ ap (λ t. t ++ tables_text c.args.p (view_of c.args.tables.now c.args.p)) c.new-text.ensures.items in
    subst IsUtf8 (sym text) (tables-utf8 c.args.p (view_of c.args.tables.now c.args.p))
