use Rattle.std.proofs.Common.{◌≡◌, List, ap, sym, subst, ◌∙◌}
use Rattle.base.specs.Pages.{PageRun, covers}
use Rattle.base.specs.Transactions.{Live, AreAscending}
use Rattle.ledger.specs.Gifts.{left}
use Rattle.ledger.specs.declared.live.Terms.{Terms}
use Rattle.ledger.specs.Ledger.{LedgerView, found}
use Rattle.ledger.specs.Changes.{with_live}
use Rattle.ledger.proofs.Kept.{IsKept-open, has_put}
use Rattle.ledger.proofs.Transactions.{ascending}
use Rattle.ledger.proofs.ledger.Ledger.open.Goals as goal

pub take_out-requires : goal.take_out-requires
take_out-requires c =
    let old = c.self.inside in
    let lives = ap (λ (l : LedgerView). l.live) c.self.view_is in
    let named = ap (λ (t : Live). t.handle) c.transaction.view_is in
    let runs : c.deref-2.result.now ≡ c.args.transaction.ranges = c.deref-2.ensures.value ∙ ap (λ (t : Terms). t.ranges.items) c.deref.ensures ∙ ap (λ (t : Live). t.ranges) c.transaction.view_is in
    let again : c.deref-then-is_err-2.result.now ≡ c.args.transaction.ranges = c.deref-then-is_err-2.ensures.value ∙ ap (λ (t : Terms). t.ranges.items) c.deref-then-is_err.ensures ∙ ap (λ (t : Live). t.ranges) c.transaction.view_is in
    let unknown : found old.live.items c.args.transaction.handle ≡ _ = ap (λ (l : List Live). found l c.args.transaction.handle) lives ∙ c.requires.new in
    λ n.
    has_put old.manifest (left old.manifest old.given.spans) old.live.items old.given.spans old.shared.spans c.put_all.new.self.spans c.deref-2.result.now c.args.transaction.handle c.bits-number.result c.self.invariant unknown (c.bits-number.ensures.same ∙ named) c.in_ok-put_all.ensures.at n
    ∙ ap (λ (rs : List PageRun). covers rs n) (runs ∙ sym again)

pub put_in-requires-clause-ascending : goal.put_in-requires-clause-ascending
put_in-requires-clause-ascending c = subst AreAscending (sym c.reserve.ensures.items) (ascending c.self.inside.live.items c.self.invariant.separate)

pub invariant_of-self-2 : goal.invariant_of-self-2
invariant_of-self-2 c =
    IsKept-open c.self.inside.manifest (left c.self.inside.manifest c.self.inside.given.spans) c.self.inside.live.items c.args.self.now.live c.put_in.new.live.items c.self.inside.given.spans c.self.inside.shared.spans c.put_all.new.self.spans
    c.args.transaction c.deref-2.result.now c.bits-number.result c.self.invariant (ap (λ (l : LedgerView). l.live) c.self.view_is)
    (c.deref-2.ensures.value ∙ ap (λ (t : Terms). t.ranges.items) c.deref.ensures ∙ ap (λ (t : Live). t.ranges) c.transaction.view_is) (c.bits-number.ensures.same ∙ ap (λ (t : Live). t.handle) c.transaction.view_is)
    c.requires.new c.requires.named c.requires.apart c.in_ok-put_all.ensures.at (c.put_in.ensures ∙ ap (with_live c.args.transaction) c.reserve.ensures.items)
