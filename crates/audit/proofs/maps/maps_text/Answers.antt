use Rattle.std.proofs.Common.{◌++◌, subst, sym, ap, ◌∙◌}
use Rattle.std.specs.Str.{IsUtf8}
use Rattle.stage2.specs.Tables.{view_of}
use Rattle.audit.specs.Texts.{maps_text}
use Rattle.audit.proofs.TextBytes.{maps-utf8}
use Rattle.audit.proofs.maps.maps_text.Goals as goal

pub text_of-requires : goal.text_of-requires
text_of-requires g c =
    let text = c.in_ok-append_maps.ensures ∙ ap (λ t. t ++ maps_text c.args.p (view_of c.args.tables.now c.args.p)) c.new-text.ensures.items in
    subst IsUtf8 (sym text) (maps-utf8 c.args.p (view_of c.args.tables.now c.args.p))
