use Rattle.std.proofs.Common.{◌≡◌, Bool, true, false, cond, Some, None, sym, ap, ◌∙◌}
use Rattle.std.specs.Option.{option_map}
use Rattle.base.specs.State.{State}
use Rattle.ledger.specs.Ledger.{found}
use Rattle.rules.specs.Receivers.{is_received_by}
use Rattle.spm.proofs.ReceiverLemmas.{received_where}
use Rattle.spm.proofs.calls.receiver.received_with.Goals as goal

pub returns-in_err-transaction : goal.returns-in_err-transaction
returns-in_err-transaction c =
    let s = c.args.state.now in
    let none : found s.live c.args.handle ≡ None = ap (λ (u : State). found u.live c.args.handle) (sym c.state.view_is) ∙ sym c.find.ensures ∙ ap (λ o. option_map (λ t. t.now) o) c.in_err-transaction.was in
    rw c.from_residual.ensures (sym (received_where s c.args.p c.args.handle None c.requires none))

pub returns-then-is_received_by : goal.returns-then-is_received_by
returns-then-is_received_by c =
    let s = c.args.state.now in
    let t = c.in_ok-transaction.transaction.now in
    let here : found s.live c.args.handle ≡ Some t = ap (λ (u : State). found u.live c.args.handle) (sym c.state.view_is) ∙ sym c.in_ok-transaction.ensures in
    let mine : is_received_by c.args.p t ≡ true = sym c.is_received_by.ensures ∙ c.if-is_received_by.true in
    sym (received_where s c.args.p c.args.handle (Some t) c.requires here ∙ ap (λ (b : Bool). cond b (Some t) None) mine)

pub returns-else-is_received_by : goal.returns-else-is_received_by
returns-else-is_received_by c =
    let s = c.args.state.now in
    let t = c.in_ok-transaction.transaction.now in
    let here : found s.live c.args.handle ≡ Some t = ap (λ (u : State). found u.live c.args.handle) (sym c.state.view_is) ∙ sym c.in_ok-transaction.ensures in
    let mine : is_received_by c.args.p t ≡ false = sym c.is_received_by.ensures ∙ c.if-is_received_by.false in
    sym (received_where s c.args.p c.args.handle (Some t) c.requires here ∙ ap (λ (b : Bool). cond b (Some t) None) mine)
