use Rattle.std.proofs.Common.{sym, ap, refl, ◌∙◌}
use Rattle.std.specs.Option.{option_map}
use Rattle.ledger.proofs.Places.{IsPlace-in, HasNone-in}
use Rattle.ledger.proofs.Kept.{found_at}
use Rattle.ledger.proofs.live.find.Goals as goal

pub returns-in_err-place : goal.returns-in_err-place
returns-in_err-place c =
    let live = c.args.live.now in
    let none = HasNone-in live live c.args.handle c.halved.result refl c.halved.ensures c.in_err-place.was in
    ap (option_map (λ t. t.now)) c.from_residual.ensures ∙ sym none.got

pub returns-then-live-gt-FEW : goal.returns-then-live-gt-FEW
returns-then-live-gt-FEW c =
    let live = c.args.live.now in
    let place = IsPlace-in live live c.args.handle c.in_ok-place.place c.halved.result refl c.halved.ensures c.in_ok-place.was in
    sym (found_at live c.args.handle c.in_ok-place.place c.index-live-place.result place c.index-live-place.is)
