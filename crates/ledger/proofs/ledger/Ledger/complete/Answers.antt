use Rattle.std.proofs.Common.{◌≡◌, List, Some, None, refl, sym, ap, subst, ◌∙◌}
use Rattle.base.specs.Ledger.{with_donation_of}
use Rattle.base.specs.Pages.{PageRun}
use Rattle.base.specs.Transactions.{Live, AreAscending, gift}
use Rattle.ledger.specs.declared.live.Terms.{Terms}
use Rattle.ledger.specs.Gifts.{left}
use Rattle.ledger.specs.Ledger.{LedgerView, found}
use Rattle.ledger.specs.Changes.{without}
use Rattle.ledger.proofs.Donations.{says-left, left-new}
use Rattle.ledger.proofs.Places.{IsPlace-in, HasNone-in}
use Rattle.ledger.proofs.Kept.{found_at, at_place_pages, IsKept-close, IsKept-given}
use Rattle.ledger.proofs.Transactions.{ascending}
use Rattle.ledger.proofs.ledger.Ledger.complete.Goals as goal

pub place_of-requires : goal.place_of-requires
place_of-requires c = subst AreAscending (sym c.deref.ensures.value) (ascending c.self.inside.live.items c.self.invariant.separate)

pub returns-in_default-clause-donations : goal.returns-in_default-clause-donations
returns-in_default-clause-donations c = λ t known.
    let lives : c.self.inside.live.items ≡ c.args.self.now.live = ap (λ (l : LedgerView). l.live) c.self.view_is in
    let none = HasNone-in c.args.self.now.live c.deref.result.now c.args.handle c.place_of.result (c.deref.ensures.value ∙ lives) c.place_of.ensures c.in_default.is in
    let bad : Some t ≡ None = sym known ∙ none.got in
    absurd cc

pub returns-in_default-clause-live : goal.returns-in_default-clause-live
returns-in_default-clause-live c =
    let lives : c.self.inside.live.items ≡ c.args.self.now.live = ap (λ (l : LedgerView). l.live) c.self.view_is in
    let none = HasNone-in c.args.self.now.live c.deref.result.now c.args.handle c.place_of.result (c.deref.ensures.value ∙ lives) c.place_of.ensures c.in_default.is in
    sym none.removed

pub take_at-requires-clause-pages : goal.take_at-requires-clause-pages
take_at-requires-clause-pages c =
    let old = c.self.inside in
    let h = c.args.handle in
    let i = c.in-Some.place in
    let place = IsPlace-in old.live.items c.deref.result.now h i c.place_of.result c.deref.ensures.value c.place_of.ensures c.in-Some.is in
    at_place_pages old.manifest (left old.manifest old.given.spans) old.live.items old.given.spans old.shared.spans h i c.self.invariant place

pub invariant_of-self-2 : goal.invariant_of-self-2
invariant_of-self-2 c =
    let old = c.self.inside in
    let h = c.args.handle in
    let i = c.in-Some.place in
    let place = IsPlace-in old.live.items c.deref.result.now h i c.place_of.result c.deref.ensures.value c.place_of.ensures c.in-Some.is in
    let t = c.take_at.result in
    let is : found old.live.items h ≡ Some t = found_at old.live.items h i t place (c.take_at.ensures.value t) in
    let ds = left old.manifest old.given.spans in
    let new = c.put_all.new.self.spans in
    let closed = IsKept-close old.manifest ds old.live.items c.take_at.new.live.items old.given.spans old.shared.spans c.take_at.new.shared.spans h i t t.ranges c.self.invariant place is refl c.take_at.ensures.shared c.take_at.ensures.live in
    IsKept-given old.manifest ds (left old.manifest new) c.take_at.new.live.items old.given.spans c.take_at.new.shared.spans new closed (says-left old.manifest new)

pub returns-clause-donations : goal.returns-clause-donations
returns-clause-donations c = λ u known.
    let old = c.self.inside in
    let h = c.args.handle in
    let i = c.in-Some.place in
    let lives : old.live.items ≡ c.args.self.now.live = ap (λ (l : LedgerView). l.live) c.self.view_is in
    let place = IsPlace-in old.live.items c.deref.result.now h i c.place_of.result c.deref.ensures.value c.place_of.ensures c.in-Some.is in
    let t = c.index.result.now in
    let is : found old.live.items h ≡ Some t = found_at old.live.items h i t place c.index.ensures in
    let here : found c.args.self.now.live h ≡ Some t = ap (λ (l : List Live). found l h) (sym lives) ∙ is in
    let both : Some u ≡ Some t = sym known ∙ here in
    let one : t ≡ u = cc in
    let runs : c.deref-3.result.now ≡ u.ranges = c.deref-3.ensures.value ∙ ap (λ (t : Terms). t.ranges.items) c.deref-2.ensures ∙ ap (λ (t : Live). t.ranges) (c.behind-self.view_is ∙ one) in
    left-new old.manifest c.deref-3.result.now (gift c.args.p c.args.access) c.number.result old.given.spans c.put_all.new.self.spans c.number.ensures c.in_ok-put_all.ensures.at
    ∙ ap (λ (rs : List PageRun). with_donation_of old.manifest rs (gift c.args.p c.args.access) (left old.manifest old.given.spans)) runs
    ∙ ap (λ (l : LedgerView). with_donation_of l.manifest u.ranges (gift c.args.p c.args.access) l.donations) c.self.view_is

pub returns-clause-live : goal.returns-clause-live
returns-clause-live c =
    let old = c.self.inside in
    let h = c.args.handle in
    let i = c.in-Some.place in
    let lives : old.live.items ≡ c.args.self.now.live = ap (λ (l : LedgerView). l.live) c.self.view_is in
    let place = IsPlace-in old.live.items c.deref.result.now h i c.place_of.result c.deref.ensures.value c.place_of.ensures c.in-Some.is in
    c.take_at.ensures.live ∙ place.removed ∙ ap (without h) lives
