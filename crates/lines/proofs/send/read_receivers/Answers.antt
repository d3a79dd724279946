use Rattle.std.proofs.Common.{rules, ◌≡◌, None, arith, sym, ◌∙◌, [], drop, length}
use Rattle.std.proofs.lemmas.Grind.{common_steps}
use Rattle.lines.specs.Grammar.{parted_by, receiver_of}
use Rattle.lines.proofs.Parts.{reads_next, reads_end, none_left, one_to_all, some_parts}
use Rattle.lines.proofs.send.read_receivers.Goals as goal

pub loop-left-preserved : goal.loop-left-preserved
loop-left-preserved c =
    let left = rw (c.in-Some.is) at c.loop-left.invariant.left in
    let next = reads_next receiver_of (parted_by 44 c.args.text.now) _ _ _ _ _ c.loop-left.invariant.reads (sym c.first_part.ensures.parts ∙ left) (sym c.read_receiver.ensures ∙ c.in_ok-read_receiver.was) c.push.ensures.items in
    record {
      few = grind (arith, common_steps);
      reads = next.0;
      left = next.1;
    }

pub returns : goal.returns
returns c =
    let parts = parted_by 44 c.args.text.now in
    let none : c.loop-left.left ≡ None = search rules in
    let end : [] ≡ drop (length c.loop-left.receivers.items) parts = rw none at c.loop-left.invariant.left in
    one_to_all 8 receiver_of parts _ (some_parts 44 c.args.text.now) (omega (arith, none_left parts _ end, c.loop-left.invariant.few)) (reads_end receiver_of parts _ _ c.loop-left.invariant.reads end)
