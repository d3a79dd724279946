use Rattle.std.proofs.Common.{sym, ap, subst, ◌∙◌}
use Rattle.base.specs.Transactions.{AreAscending}
use Rattle.ledger.specs.Gifts.{left}
use Rattle.ledger.specs.Ledger.{LedgerView}
use Rattle.ledger.specs.Changes.{with_retrieval_of}
use Rattle.ledger.proofs.Places.{IsPlace-in, HasNone-in}
use Rattle.ledger.proofs.Kept.{changed_at, IsKept-retrieval}
use Rattle.ledger.proofs.Transactions.{ascending}
use Rattle.ledger.proofs.ledger.Ledger.set_retrieval.Goals as goal

pub place_of-requires : goal.place_of-requires
place_of-requires c = subst AreAscending (sym c.deref.ensures.value) (ascending c.self.inside.live.items c.self.invariant.separate)

pub invariant_of-self : goal.invariant_of-self
invariant_of-self c =
    let place = IsPlace-in c.self.inside.live.items c.deref.result.now c.args.handle c.in-Some.place c.place_of.result c.deref.ensures.value c.place_of.ensures c.in-Some.is in
    IsKept-retrieval c.self.inside.manifest (left c.self.inside.manifest c.self.inside.given.spans) c.self.inside.live.items _ c.self.inside.given.spans c.self.inside.shared.spans c.args.handle c.args.p c.args.retrieved c.self.invariant
    (changed_at c.self.inside.live.items c.args.handle c.args.p c.in-Some.place c.args.retrieved c.index_mut.result.now c.set_retrieved.new.transaction place c.index_mut.ensures.value c.set_retrieved.ensures)

pub returns-in-Some-clause-live : goal.returns-in-Some-clause-live
returns-in-Some-clause-live c =
    let place = IsPlace-in c.self.inside.live.items c.deref.result.now c.args.handle c.in-Some.place c.place_of.result c.deref.ensures.value c.place_of.ensures c.in-Some.is in
    changed_at c.self.inside.live.items c.args.handle c.args.p c.in-Some.place c.args.retrieved c.index_mut.result.now c.set_retrieved.new.transaction place c.index_mut.ensures.value c.set_retrieved.ensures
    ∙ ap (λ (l : LedgerView). with_retrieval_of c.args.handle c.args.p c.args.retrieved l.live) c.self.view_is

pub returns-in_default-clause-live : goal.returns-in_default-clause-live
returns-in_default-clause-live c =
    let lives = ap (λ (l : LedgerView). l.live) c.self.view_is in
    let none = HasNone-in c.args.self.now.live c.deref.result.now c.args.handle c.place_of.result (c.deref.ensures.value ∙ lives) c.place_of.ensures c.in_default.is in
    sym (none.changed c.args.p c.args.retrieved)
