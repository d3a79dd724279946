use Rattle.std.proofs.Common.{◌≡◌, true, ltb, length, get_or, refl, sym, ap, subst, ◌∙◌, arith}
use Rattle.std.proofs.lemmas.Bool.{eqb-true}
use Rattle.pool.proofs.Names.{nat_tests, row_of, StandOnce, get_or_read}
use Rattle.pool.proofs.identifiers.Identifiers.row.Goals as goal

pub returns-then-eq : goal.returns-then-eq
returns-then-eq c =
    let ids = c.as_slice-ids.result.now in
    let place = c.from-place.result in
    let read : c.index-ids-place.result ≡ get_or ids place 0 = get_or_read ids place c.index-ids-place.result c.if-place-ids.true c.index-ids-place.is 0 in
    let is : c.index-ids-place.result ≡ c.args.p = eqb-true _ _ (sym c.eq.ensures ∙ c.if-eq.true) in
    let inside : ltb place (length ids) ≡ true = grind (arith, nat_tests, c.if-place-ids.true) in
    rw (← (c.as_slice-ids.ensures.value ∙ c.self.view_is), ap (row_of ids) (sym is ∙ read) ∙ (subst StandOnce (sym c.as_slice-ids.ensures.value) c.self.invariant) place c.if-place-ids.true, inside) refl
