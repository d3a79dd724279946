use Rattle.std.proofs.Common.{◌≡◌, Bool, true, false, cond, eqb, Some, None, sym, ap, ◌∙◌}
use Rattle.std.specs.Option.{option_map}
use Rattle.base.specs.Transactions.{Live}
use Rattle.base.specs.State.{State}
use Rattle.ledger.specs.declared.live.Terms.{Terms}
use Rattle.ledger.specs.Ledger.{found}
use Rattle.spm.proofs.ReclaimLemmas.{sent_where}
use Rattle.spm.proofs.calls.reclaim.sent_with.Goals as goal

pub returns-in_err-transaction : goal.returns-in_err-transaction
returns-in_err-transaction c =
    let s = c.args.state.now in
    let none : found s.live c.args.handle ≡ None = ap (λ (u : State). found u.live c.args.handle) (sym c.state.view_is) ∙ sym c.find.ensures ∙ ap (λ o. option_map (λ t. t.now) o) c.in_err-transaction.was in
    rw c.from_residual.ensures (sym (sent_where s c.args.p c.args.handle None c.requires none))

pub returns-then-eq : goal.returns-then-eq
returns-then-eq c =
    let s = c.args.state.now in
    let t = c.in_ok-transaction.transaction.now in
    let here : found s.live c.args.handle ≡ Some t = ap (λ (u : State). found u.live c.args.handle) (sym c.state.view_is) ∙ sym c.in_ok-transaction.ensures in
    let sender : eqb t.sender c.args.p ≡ true = ap (λ (u : Live). eqb u.sender c.args.p) (sym c.transaction.view_is) ∙ ap (λ (u : Terms). eqb u.sender c.args.p) (sym c.deref.ensures) ∙ sym c.eq.ensures ∙ c.if-eq.true in
    sym (sent_where s c.args.p c.args.handle (Some t) c.requires here ∙ ap (λ (b : Bool). cond b (Some t) None) sender)

pub returns-else-eq : goal.returns-else-eq
returns-else-eq c =
    let s = c.args.state.now in
    let t = c.in_ok-transaction.transaction.now in
    let here : found s.live c.args.handle ≡ Some t = ap (λ (u : State). found u.live c.args.handle) (sym c.state.view_is) ∙ sym c.in_ok-transaction.ensures in
    let sender : eqb t.sender c.args.p ≡ false = ap (λ (u : Live). eqb u.sender c.args.p) (sym c.transaction.view_is) ∙ ap (λ (u : Terms). eqb u.sender c.args.p) (sym c.deref.ensures) ∙ sym c.eq.ensures ∙ c.if-eq.false in
    sym (sent_where s c.args.p c.args.handle (Some t) c.requires here ∙ ap (λ (b : Bool). cond b (Some t) None) sender)
