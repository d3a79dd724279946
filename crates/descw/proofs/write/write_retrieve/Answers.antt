use Rattle.std.proofs.Common.{◌≡◌, refl}
use Rattle.base.specs.Descriptors.Encoding.{retrieve_text}
use Rattle.descw.proofs.Requests.{retrieve_text-spells}
use Rattle.descw.proofs.write.write_retrieve.Goals as goal

pub returns-clause-spells : goal.returns-clause-spells
unfolding retrieve_text
returns-clause-spells c =
    let text : c.write_access.new.out.items ≡ retrieve_text c.args.version c.args.fields.now = rw (c.write_access.ensures.text.items, c.write_header.ensures.text.items, c.in_ok-out.ensures.items, ← c.fields.view_is) refl in
    let header = c.write_header.ensures.fits in
    let endpoint = c.write_access.ensures.fits in
    retrieve_text-spells c.args.version c.args.fields.now c.write_access.new.out.items text (rw (← c.fields.view_is) header) (rw (← c.fields.view_is) endpoint)
