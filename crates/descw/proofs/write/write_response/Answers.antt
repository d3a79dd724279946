use Rattle.std.proofs.Common.{◌≡◌, refl}
use Rattle.base.specs.Descriptors.Encoding.{response_text}
use Rattle.descw.proofs.Responses.{response_text-spells}
use Rattle.descw.proofs.write.write_response.Goals as goal

pub returns-clause-spells : goal.returns-clause-spells
unfolding response_text
returns-clause-spells c =
    let text : c.write_runs.new.out.items ≡ response_text c.args.version c.args.fields.now = rw (c.write_runs.ensures.text.items, c.write_composite.ensures.items, c.write_access.ensures.text.items, c.write_header.ensures.text.items, c.in_ok-out.ensures.items, c.header_size-composite.ensures, c.page_count.ensures, c.kind_bits.ensures, c.normal_write_back.ensures, ← c.fields.view_is) refl in
    let h = c.write_header.ensures.fits in
    response_text-spells c.args.version c.args.fields.now c.write_runs.new.out.items text (rw (← c.fields.view_is) (record { sender = h.sender; handle = h.handle; tag = h.tag })) (rw (← c.fields.view_is) c.write_access.ensures.fits) (rw (← c.fields.view_is) c.write_runs.ensures.in_range)
