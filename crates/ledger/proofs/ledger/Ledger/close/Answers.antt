use Rattle.std.proofs.Common.{refl, sym, ap, subst, ◌∙◌}
use Rattle.base.specs.Transactions.{AreAscending}
use Rattle.ledger.specs.Gifts.{left}
use Rattle.ledger.specs.Ledger.{LedgerView, found}
use Rattle.ledger.specs.Changes.{without}
use Rattle.ledger.proofs.Places.{IsPlace-in, HasNone-in}
use Rattle.ledger.proofs.Kept.{found_at, at_place_pages, IsKept-close}
use Rattle.ledger.proofs.Transactions.{ascending}
use Rattle.ledger.proofs.ledger.Ledger.close.Goals as goal

pub place_of-requires : goal.place_of-requires
place_of-requires c = subst AreAscending (sym c.deref.ensures.value) (ascending c.self.inside.live.items c.self.invariant.separate)

pub returns-in_err-place-clause-value : goal.returns-in_err-place-clause-value
returns-in_err-place-clause-value c =
    let lives = ap (λ (l : LedgerView). l.live) c.self.view_is in
    let none = HasNone-in c.args.self.now.live c.deref.result.now c.args.handle c.place_of.result (c.deref.ensures.value ∙ lives) c.place_of.ensures c.in_err-place.was in
    c.from_residual.ensures ∙ sym none.got

pub returns-in_err-place-clause-live : goal.returns-in_err-place-clause-live
returns-in_err-place-clause-live c =
    let lives = ap (λ (l : LedgerView). l.live) c.self.view_is in
    let none = HasNone-in c.args.self.now.live c.deref.result.now c.args.handle c.place_of.result (c.deref.ensures.value ∙ lives) c.place_of.ensures c.in_err-place.was in
    sym none.removed

pub take_at-requires-clause-pages : goal.take_at-requires-clause-pages
take_at-requires-clause-pages c =
    let place = IsPlace-in c.self.inside.live.items c.deref.result.now c.args.handle c.in_ok-place.place c.place_of.result c.deref.ensures.value c.place_of.ensures c.in_ok-place.was in
    at_place_pages c.self.inside.manifest (left c.self.inside.manifest c.self.inside.given.spans) c.self.inside.live.items c.self.inside.given.spans c.self.inside.shared.spans c.args.handle c.in_ok-place.place c.self.invariant place

pub invariant_of-self : goal.invariant_of-self
invariant_of-self c =
    let place = IsPlace-in c.self.inside.live.items c.deref.result.now c.args.handle c.in_ok-place.place c.place_of.result c.deref.ensures.value c.place_of.ensures c.in_ok-place.was in
    let t = c.take_at.result in
    IsKept-close c.self.inside.manifest (left c.self.inside.manifest c.self.inside.given.spans) c.self.inside.live.items c.take_at.new.live.items c.self.inside.given.spans c.self.inside.shared.spans c.take_at.new.shared.spans
    c.args.handle c.in_ok-place.place t t.ranges c.self.invariant place (found_at c.self.inside.live.items c.args.handle c.in_ok-place.place t place (c.take_at.ensures.value t)) refl c.take_at.ensures.shared c.take_at.ensures.live

pub returns-clause-value : goal.returns-clause-value
returns-clause-value c =
    let place = IsPlace-in c.self.inside.live.items c.deref.result.now c.args.handle c.in_ok-place.place c.place_of.result c.deref.ensures.value c.place_of.ensures c.in_ok-place.was in
    let t = c.take_at.result in
    sym (found_at c.self.inside.live.items c.args.handle c.in_ok-place.place t place (c.take_at.ensures.value t)) ∙ ap (λ (l : LedgerView). found l.live c.args.handle) c.self.view_is

pub returns-clause-live : goal.returns-clause-live
returns-clause-live c =
    let place = IsPlace-in c.self.inside.live.items c.deref.result.now c.args.handle c.in_ok-place.place c.place_of.result c.deref.ensures.value c.place_of.ensures c.in_ok-place.was in
    c.take_at.ensures.live ∙ place.removed ∙ ap (λ (l : LedgerView). without c.args.handle l.live) c.self.view_is
