use Rattle.std.proofs.Common.{◌≡◌, refl, rules}
use Rattle.base.specs.Descriptors.Encoding.{relinquish_text}
use Rattle.descw.proofs.Requests.{relinquish_text-spells}
use Rattle.descw.proofs.write.write_relinquish.Goals as goal

pub returns-clause-spells : goal.returns-clause-spells
unfolding relinquish_text
returns-clause-spells c =
    let text : c.write_u16.new.out.items ≡ relinquish_text c.args.fields.now = rw (c.write_u16.ensures.items, c.write_u32-2.ensures.items, c.write_u32.ensures.items, c.write_u64.ensures.items, c.in_ok-out.ensures.items, c.number.ensures, c.bits.ensures.same, ← c.fields.view_is) refl in
    relinquish_text-spells c.args.fields.now c.write_u16.new.out.items text (rw (← c.fields.view_is) c.bits.ensures.in_range) (rw (← c.fields.view_is) (search rules))
