use Rattle.std.proofs.Common.{◌≡◌, ◌<◌, length, sym, ap, ◌∙◌, length-append, arith}
use Rattle.std.proofs.lemmas.Result.{IfOk-weaker}
use Rattle.digits.specs.Digits.{hex}
use Rattle.digits.proofs.Addresses.{hex_length}
use Rattle.audit.proofs.text.append_id.Goals as goal

pub returns-clause-long : goal.returns-clause-long
returns-clause-long c =
    let n = c.number.result in
    let small : n < 65536 = c.number.type_inv in
    let same : length (hex 4 c.args.p) ≡ 4 = ap (λ k. length (hex 4 k)) (sym c.number.ensures) ∙ hex_length 4 n (omega arith) (omega (arith, small)) (omega (arith, small)) in
    IfOk-weaker c.append_hex.result _ _ (λ _ is. omega (arith, ap (λ xs. length xs) is, length-append c.args.text.now.items (hex 4 c.from.result), ap (λ k. length (hex 4 k)) (c.from.ensures ∙ c.number.ensures), same)) c.append_hex.ensures
