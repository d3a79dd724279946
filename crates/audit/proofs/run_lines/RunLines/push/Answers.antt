use Rattle.std.proofs.Common.{sym, ◌∙◌}
use Rattle.audit.proofs.RunLines.{lined-first, lined-joined, lined-apart}
use Rattle.audit.proofs.run_lines.RunLines.push.Goals as goal
use Rattle.audit.proofs.run_lines.RunLines.push.Goals.{in-Some+then-is_followed_by, in-Some+else-is_followed_by+in_ok-append-in-Some, in-None}

pub returns-clause-lined : goal.returns-clause-lined
returns-clause-lined g c = λ before runs so.
    let rest = g.V.Common.rest in
    let same = g.V.Common.same in
    let old = c.args.self.now in
    let text = c.args.text.now.items in
    elim c.match-take.branch [
      | in-Some+then-is_followed_by w ↦ rw (w.self-is, w.text-is, w.waits-is) (lined-joined rest same before text old.count old.last runs so c.args.next w.in-Some.last w.joined.result (sym w.in-Some.ensures.value) (sym w.if-is_followed_by.ensures) w.joined.ensures)
      | in-Some+else-is_followed_by+in_ok-append-in-Some w ↦ rw (w.self-is, w.text-is, w.waits-is) (lined-apart rest same before text old.count old.last runs so c.args.next w.in-Some.last w.append.new.text.items (sym w.in-Some.ensures.value) (sym w.if-is_followed_by.ensures) w.in_ok-append-in-Some.ensures)
      | in-None w ↦ rw (w.self-is, w.text-is, w.waits-is) (lined-first rest same before text old.count old.last runs so c.args.next (sym c.take.ensures.value ∙ w.in-None.is))
    ]
