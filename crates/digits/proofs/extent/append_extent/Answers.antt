use Rattle.std.proofs.Common.{◌≡◌, ℕ, List, subst, ◌<◌, ◌^◌, ◌++◌, codes, ap, ap₂, ◌∙◌, append_assoc, arith}
use Rattle.std.specs.Fmt.{decimal}
use Rattle.std.specs.Result.{OnOk}
use Rattle.digits.specs.Digits.{hex, address_text}
use Rattle.digits.proofs.Addresses.{filled_address}
use Rattle.digits.proofs.extent.append_extent.Goals as goal

pub returns : goal.returns
returns c =
    let old = c.args.text.now.items in
    let first = c.args.run.first in
    let pages = c.first.ensures.in_range in
    let small : first < 2 ^ 27 = omega (arith, pages.0, pages.1) in
    let page : c.fill_digits.new.out ≡ hex 7 first = c.fill_digits.ensures ∙ ap (hex 7) (c.from.ensures ∙ c.number.ensures.same ∙ c.first.ensures.same) in
    let head = c.in_ok-extend_from_slice.ensures.items ∙ ap (λ t. old ++ t) (filled_address first c.fill_digits.new.out small page) in
    let count = c.from-2.ensures ∙ c.count.ensures.same in
    let line = ap₂ (λ t n. t ++ decimal n) head count ∙ append_assoc old (address_text first ++ codes " ") (decimal c.args.run.count) in
    subst (λ (t : List ℕ). OnOk c.append_decimal.result (c.append_decimal.new.text.items ≡ t)) line c.append_decimal.ensures
