use Rattle.std.proofs.Common.{◌≡◌, length, sym, ap, ◌∙◌}
use Rattle.base.specs.Transactions.{Live}
use Rattle.base.proofs.Ascending.{with-insert}
use Rattle.ledger.proofs.Halving.{point-named, insert-last, others_of}
use Rattle.ledger.proofs.live.put_in.Goals as goal

pub returns-then-point-len : goal.returns-then-point-len
returns-then-point-len c =
    let t = c.args.transaction in
    let old = c.args.live.now.items in
    let i = c.point_of-point.result in
    let at = point-named _ t.handle old _ i (ap (λ (u : Live). u.handle) c.transaction.view_is) c.deref.ensures.value c.point_of-point.ensures in
    let last : i ≡ length old = c.if-point-len.true ∙ c.len.ensures ∙ sym c.deref.ensures.len ∙ ap length c.deref.ensures.value in
    c.push_reserved.ensures.items ∙ sym (insert-last old i t last) ∙ with-insert t old i at.most at.lower at.others (others_of old t.handle c.requires.new)

pub returns-else-point-len : goal.returns-else-point-len
returns-else-point-len c =
    let t = c.args.transaction in
    let old = c.args.live.now.items in
    let i = c.point_of-point.result in
    let at = point-named _ t.handle old _ i (ap (λ (u : Live). u.handle) c.transaction.view_is) c.deref.ensures.value c.point_of-point.ensures in
    let ok = c.insert.ensures.succeeds c.requires.ready in
    rw ok at c.insert.ensures.items ∙ with-insert t old i at.most at.lower at.others (others_of old t.handle c.requires.new)
