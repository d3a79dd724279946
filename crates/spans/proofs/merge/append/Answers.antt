use Rattle.std.proofs.Common.{◌≡◌, ◌∙◌, ◌++◌, ◌∷◌, ◌+◌, ◌<◌, [], List, None, Some, length, drop, suc, sym, ap, subst, append_assoc, append-nil, length-append, arith}
use Rattle.std.proofs.lemmas.List.{length-drop}
use Rattle.spans.specs.Spans.{Span, end_of, ascend, are_joined}
use Rattle.spans.specs.Edits.{left_of, all_before, all_from, IsSame}
use Rattle.spans.proofs.Ascending.{ascend-dropped}
use Rattle.spans.proofs.Joined.{joined-before, joined-from}
use Rattle.spans.proofs.Lists.{rest_lent}
use Rattle.spans.proofs.Merging.{first_part, part-right, part-rest, part-some, part-none}
use Rattle.spans.proofs.Parting.{ascend-all_from, from_at_end}
use Rattle.spans.proofs.Same.{same-before, same-self}
use Rattle.spans.proofs.merge.append.Goals as goal

pub push-requires : goal.push-requires
push-requires c =
    let ss = c.args.spans.now in
    let place = c.place_near_end-place.result in
    let s = c.index-spans-place.result in
    let e = c.place_near_end-place.ensures.place in
    let above : c.args.from < end_of s.run = subst (λ (x : Span). c.args.from < end_of x.run) (sym c.index-spans-place.is) (e.above s c.if-place-spans.true) in
    let l = ap length (part-rest c.args.from c.args.to place ss s c.requires.ascending c.if-place-spans.true c.index-spans-place.is e.below above) in
    omega (arith, l, c.requires.room)

pub extend_before-requires-clause-ascending : goal.extend_before-requires-clause-ascending
extend_before-requires-clause-ascending c =
    let ss = c.args.spans.now in
    let place = c.place_near_end-place.result in
    ap (ascend 0) (rest_lent (place + 1) ss (omega (arith, c.if-place-spans.true))) ∙ ascend-dropped (place + 1) ss c.requires.ascending

pub extend_before-requires-clause-room : goal.extend_before-requires-clause-room
extend_before-requires-clause-room c =
    let ss = c.args.spans.now in
    let place = c.place_near_end-place.result in
    let s = c.index-spans-place.result in
    let e = c.place_near_end-place.ensures.place in
    let above : c.args.from < end_of s.run = subst (λ (x : Span). c.args.from < end_of x.run) (sym c.index-spans-place.is) (e.above s c.if-place-spans.true) in
    let l = ap length (part-rest c.args.from c.args.to place ss s c.requires.ascending c.if-place-spans.true c.index-spans-place.is e.below above) in
    let m = length-append c.args.out.now.items (c.in-Some.part ∷ []) in
    let n = length-drop (suc place) ss in
    let k = length-drop (place + 1) ss in
    omega (arith, l, m, n, k, c.requires.room, c.push.ensures.same.fewer, c.push.ensures.capacity)

pub returns-in-Some-clause-same : goal.returns-in-Some-clause-same
returns-in-Some-clause-same c =
    let ss = c.args.spans.now in
    let to = c.args.to in
    let out = c.args.out.now.items in
    let place = c.place_near_end-place.result in
    let s = c.index-spans-place.result in
    let e = c.place_near_end-place.ensures.place in
    let lt = c.if-place-spans.true in
    let above : c.args.from < end_of s.run = subst (λ (x : Span). c.args.from < end_of x.run) (sym c.index-spans-place.is) (e.above s lt) in
    let r = first_part c.args.from to place ss s c.requires.ascending lt c.index-spans-place.is e.below above in
    let part = c.in-Some.part in
    let left : left_of to r ≡ Some part = sym (c.within.ensures r (part-right c.args.from to place ss s c.requires.ascending lt c.index-spans-place.is e.below above)) ∙ c.in-Some.is in
    let on : suc place ≡ place + 1 = omega arith in
    let all = part-some c.args.from to place ss s c.requires.ascending lt c.index-spans-place.is e.below above part left ∙ ap (λ k. part ∷ all_before to (drop k ss)) on in
    let rest = all_before to (drop (place + 1) ss) in
    let mid = c.push.new.out.items in
    let new = c.extend_before.new.out.items in
    let lent = c.extend_before.ensures.items ∙ ap (λ l. mid ++ all_before to l) (rest_lent (place + 1) ss (omega (arith, lt))) in
    subst (λ (l : List Span). IsSame l new) (append_assoc out (part ∷ []) rest ∙ ap (λ l. out ++ l) (sym all))
    (subst (λ (l : List Span). IsSame ((out ++ part ∷ []) ++ rest) l) (sym lent) (same-before (out ++ part ∷ []) mid rest c.push.ensures.same))

pub returns-in-Some-clause-joined : goal.returns-in-Some-clause-joined
returns-in-Some-clause-joined c = λ a b.
    let ss = c.args.spans.now in
    let from = c.args.from in
    let to = c.args.to in
    let place = c.place_near_end-place.result in
    let s = c.index-spans-place.result in
    let e = c.place_near_end-place.ensures.place in
    let lt = c.if-place-spans.true in
    let above : from < end_of s.run = subst (λ (x : Span). from < end_of x.run) (sym c.index-spans-place.is) (e.above s lt) in
    let r = first_part from to place ss s c.requires.ascending lt c.index-spans-place.is e.below above in
    let part = c.in-Some.part in
    let left : left_of to r ≡ Some part = sym (c.within.ensures r (part-right from to place ss s c.requires.ascending lt c.index-spans-place.is e.below above)) ∙ c.in-Some.is in
    let on : suc place ≡ place + 1 = omega arith in
    let all = part-some from to place ss s c.requires.ascending lt c.index-spans-place.is e.below above part left ∙ ap (λ k. part ∷ all_before to (drop k ss)) on in
    let all_joined = joined-before to from (all_from from ss) (ascend-all_from from 0 ss c.requires.ascending) (joined-from from 0 ss c.requires.ascending b) in
    ap are_joined (c.extend_before.ensures.items ∙ ap (λ l. c.push.new.out.items ++ all_before to l) (rest_lent (place + 1) ss (omega (arith, lt)))) ∙ c.push.ensures.joined (all_before to (drop (place + 1) ss)) a (ap are_joined (sym all) ∙ all_joined)

pub returns-in_default-clause-same : goal.returns-in_default-clause-same
returns-in_default-clause-same c =
    let ss = c.args.spans.now in
    let to = c.args.to in
    let out = c.args.out.now.items in
    let place = c.place_near_end-place.result in
    let s = c.index-spans-place.result in
    let e = c.place_near_end-place.ensures.place in
    let lt = c.if-place-spans.true in
    let above : c.args.from < end_of s.run = subst (λ (x : Span). c.args.from < end_of x.run) (sym c.index-spans-place.is) (e.above s lt) in
    let r = first_part c.args.from to place ss s c.requires.ascending lt c.index-spans-place.is e.below above in
    let left : left_of to r ≡ None = sym (c.within.ensures r (part-right c.args.from to place ss s c.requires.ascending lt c.index-spans-place.is e.below above)) ∙ c.in_default.is in
    let none = part-none c.args.from to place ss s c.requires.ascending lt c.index-spans-place.is e.below above left in
    subst (λ (l : List Span). IsSame l out) (sym (ap (λ l. out ++ l) none ∙ append-nil out)) (same-self out)

pub returns-else-place-spans-clause-same : goal.returns-else-place-spans-clause-same
unfolding all_before
returns-else-place-spans-clause-same c =
    let ss = c.args.spans.now in
    let out = c.args.out.now.items in
    let none = from_at_end c.args.from c.place_near_end-place.result ss c.requires.ascending c.if-place-spans.false c.place_near_end-place.ensures.place.below in
    subst (λ (l : List Span). IsSame l out) (sym (ap (λ l. out ++ all_before c.args.to l) none ∙ append-nil out)) (same-self out)
