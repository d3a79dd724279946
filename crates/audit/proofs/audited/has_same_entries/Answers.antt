use Rattle.audit.proofs.SameEntries.{same-left, same-all}
use Rattle.audit.proofs.audited.has_same_entries.Goals as goal

pub loop-entry-preserved : goal.loop-entry-preserved
loop-entry-preserved g c =
    let so = c.loop-entry.invariant in
    let ours = c.loop-entry.ours in
    let theirs = c.loop-entry.theirs in
    let first = c.show_the_same.ensures.0 c.if-show_the_same.true in
    record {
      to = λ same. same-left ours theirs c.next.new.self c.next-in-Some.new.self c.pass_same.new.self c.pass_same.new.other c.in-Some.entry c.in-Some-next.other c.in-Some.ensures.steps c.in-Some-next.ensures.steps c.pass_same.ensures (so.to same);
      from = λ same. so.from (same-all ours theirs c.next.new.self c.next-in-Some.new.self c.pass_same.new.self c.pass_same.new.other c.in-Some.entry c.in-Some-next.other c.in-Some.ensures.steps c.in-Some-next.ensures.steps c.pass_same.ensures first same);
    }
