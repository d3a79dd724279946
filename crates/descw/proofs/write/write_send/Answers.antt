use Rattle.std.proofs.Common.{◌≡◌, refl}
use Rattle.base.specs.Descriptors.Encoding.{send_text}
use Rattle.descw.proofs.Sends.{send_text-spells}
use Rattle.descw.proofs.write.write_send.Goals as goal

pub returns-clause-spells : goal.returns-clause-spells
unfolding send_text
returns-clause-spells c =
    let text : c.write_ranges.new.out.items ≡ send_text c.args.version c.args.fields.now = rw (c.write_ranges.ensures.items, c.write_composite.ensures.items, c.write_accesses.ensures.text.items, c.write_header.ensures.text.items, c.in_ok-out.ensures.items, c.header_size.ensures, ← c.fields.view_is) refl in
    send_text-spells c.args.version c.args.fields.now c.write_ranges.new.out.items text (rw (← c.fields.view_is) c.write_header.ensures.fits) (rw (← c.fields.view_is) c.write_accesses.ensures.fits)
