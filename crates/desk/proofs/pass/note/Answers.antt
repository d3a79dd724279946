use Rattle.std.proofs.Common.{◌≡◌, [], ◌∷◌, ◌++◌, refl, sym, ap, ◌∙◌, subst, arith}
use Rattle.desk.specs.declared.pass.View.TheVariants.{Meeting}
use Rattle.desk.specs.Passes.{known_of, seen_of, with_call, IsKeeper, IsSeat}
use Rattle.desk.proofs.Moves.{meets_as, adds_as, parts_as, spares, met_is, met_same, added_is}
use Rattle.desk.proofs.pass.note.Goals as goal

pub split_seat-spare-requires : goal.split_seat-spare-requires
split_seat-spare-requires c =
    let r = c.requires in
    (r.same.0, omega (arith, r.words), spares c.args.keeper.now.id c.args.keeper.now.me.0)

pub join_seat-requires : goal.join_seat-requires
join_seat-requires c =
    let r = c.requires in
    let s = c.split_seat-spare.ensures in
    let guest = c.replace-guest.ensures.value in
    let n = c.args.entry.now.seat in
    let keeper : IsKeeper c.split_seat-spare.new.seat.me = subst IsKeeper (sym s.2) r.keeper in
    let seat : IsSeat n c.replace-guest.result.me = subst (IsSeat n) (sym (ap (λ p. p.me) guest)) r.seat in (
      s.0 ∙ r.same.0,
      ap (λ p. p.table_id) guest ∙ r.same.1,
      ap (λ m. m.1) seat,
      omega (arith, r.words),
      meets_as c.split_seat-spare.new.seat.id c.split_seat-spare.new.seat.me c.replace-guest.result.id n c.replace-guest.result.me keeper seat,
    )

pub compare_exchange_with-requires : goal.compare_exchange_with-requires
compare_exchange_with-requires c =
    let r = c.requires in
    let s = c.split_seat-spare.ensures in
    let j = c.join_seat.ensures in
    let me = c.args.keeper.now.me in
    let you = c.args.seat.now.me in
    let n = c.args.entry.now.seat in
    let same = met_same c.split_seat-spare.new.seat.me me c.replace-guest.result.me you s.2 (ap (λ p. p.me) c.replace-guest.ensures.value) in
    let is = j.2 ∙ same ∙ met_is me you n r.keeper r.seat in
    (j.0 ∙ s.0 ∙ r.same.0, omega (arith, r.words), adds_as _ c.join_seat.new.seat.id c.join_seat.new.seat.me (known_of me.0) n (seen_of you.0) c.args.entry.now is refl)

pub split_seat-requires : goal.split_seat-requires
split_seat-requires c =
    let r = c.requires in
    let s = c.split_seat-spare.ensures in
    let j = c.join_seat.ensures in
    let a = c.compare_exchange_with.ensures in
    let me = c.args.keeper.now.me in
    let you = c.args.seat.now.me in
    let e = c.args.entry.now in
    let k = known_of me.0 in
    let same = met_same c.split_seat-spare.new.seat.me me c.replace-guest.result.me you s.2 (ap (λ p. p.me) c.replace-guest.ensures.value) in
    let is = j.2 ∙ same ∙ met_is me you e.seat r.keeper r.seat in
    let then = a.2.0 ∙ added_is c.join_seat.new.seat.me k e.seat (seen_of you.0) e is in
    (a.0 ∙ j.0 ∙ s.0 ∙ r.same.0, omega (arith, r.words), parts_as c.compare_exchange_with.new.seat.id c.compare_exchange_with.new.seat.me (with_call k e) e.seat (k.history ++ e ∷ []) then)
