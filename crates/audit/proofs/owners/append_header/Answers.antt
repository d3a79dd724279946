use Rattle.std.proofs.Common.{◌≤◌, codes, length, ap, length-append, arith}
use Rattle.std.specs.Fmt.{decimal}
use Rattle.std.proofs.lemmas.Fmt.{length-decimal-le}
use Rattle.audit.proofs.owners.append_header.Goals as goal

pub returns-clause-short : goal.returns-clause-short
returns-clause-short c =
    let first = length-append c.args.text.now.items (codes "owners ") in
    let few : length (decimal c.args.count) ≤ 20 = length-decimal-le 20 c.args.count (omega arith) (omega (arith, c.ranges.count.fits)) (omega (arith, c.ranges.count.fits)) in
    let count = length-append c.extend_from_slice.new.self.items (decimal c.args.count) in
    let end = length-append c.append_decimal.new.text.items (codes "\n") in
    omega (arith, first, few, count, end, ap (λ xs. length xs) c.in_ok-extend_from_slice.ensures.items, ap (λ xs. length xs) c.in_ok-append_decimal.ensures, ap (λ xs. length xs) c.in_ok-extend_from_slice-2.ensures.items)
