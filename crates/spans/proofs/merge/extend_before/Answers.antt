use Rattle.std.proofs.Common.{◌∙◌, ◌++◌, ◌∷◌, ◌<◌, [], take, sym, ap, subst, append_assoc, append-nil, arith}
use Rattle.std.proofs.lemmas.List.{length-take, take_all}
use Rattle.spans.specs.Spans.{Span, end_of}
use Rattle.spans.specs.Edits.{listed}
use Rattle.spans.proofs.Lists.{extended}
use Rattle.spans.proofs.Parting.{before_here, before_at_end}
use Rattle.spans.proofs.merge.extend_before.Goals as goal

pub returns-in-Some-clause-items : goal.returns-in-Some-clause-items
returns-in-Some-clause-items c =
    let place = c.place_near_end-place.result in
    let ss = c.args.spans.now in
    let l = length-take place ss in
    let ok = c.extend_from_slice.ensures.succeeds (omega (arith, l, c.requires.room)) in
    let front = extended c.extend_from_slice.result c.args.out.now.items (take place ss) c.extend_from_slice.new.self.items ok c.extend_from_slice.ensures.items in
    let s = c.index-spans-place.result in
    let e = c.place_near_end-place.ensures.place in
    let above : c.args.page < end_of s.run = subst (λ (x : Span). c.args.page < end_of x.run) (sym c.index-spans-place.is) (e.above s c.if-place-spans.true) in
    let here = before_here c.args.page place ss s c.requires.ascending c.if-place-spans.true c.index-spans-place.is e.below above in
    c.push_reserved.ensures.items ∙ ap (λ l. l ++ c.in-Some.part ∷ []) front ∙ append_assoc c.args.out.now.items (take place ss) (c.in-Some.part ∷ [])
    ∙ ap (λ l. c.args.out.now.items ++ l) (sym (here ∙ ap (λ o. take place ss ++ listed o) (sym c.before-then-place-spans.ensures ∙ c.in-Some.is)))

pub returns-in_default-clause-items : goal.returns-in_default-clause-items
returns-in_default-clause-items c =
    let place = c.place_near_end-place.result in
    let ss = c.args.spans.now in
    let l = length-take place ss in
    let ok = c.extend_from_slice.ensures.succeeds (omega (arith, l, c.requires.room)) in
    let front = extended c.extend_from_slice.result c.args.out.now.items (take place ss) c.extend_from_slice.new.self.items ok c.extend_from_slice.ensures.items in
    let s = c.index-spans-place.result in
    let e = c.place_near_end-place.ensures.place in
    let above : c.args.page < end_of s.run = subst (λ (x : Span). c.args.page < end_of x.run) (sym c.index-spans-place.is) (e.above s c.if-place-spans.true) in
    let here = before_here c.args.page place ss s c.requires.ascending c.if-place-spans.true c.index-spans-place.is e.below above in
    front ∙ ap (λ l. c.args.out.now.items ++ l) (sym (here ∙ ap (λ o. take place ss ++ listed o) (sym c.before-then-place-spans.ensures ∙ c.in_default.is) ∙ append-nil (take place ss)))

pub returns-else-place-spans-clause-items : goal.returns-else-place-spans-clause-items
returns-else-place-spans-clause-items c =
    let place = c.place_near_end-place.result in
    let ss = c.args.spans.now in
    let l = length-take place ss in
    let ok = c.extend_from_slice.ensures.succeeds (omega (arith, l, c.requires.room)) in
    let front = extended c.extend_from_slice.result c.args.out.now.items (take place ss) c.extend_from_slice.new.self.items ok c.extend_from_slice.ensures.items in
    let all = before_at_end c.args.page place ss c.requires.ascending c.if-place-spans.false c.place_near_end-place.ensures.place.below in
    front ∙ ap (λ l. c.args.out.now.items ++ l) (take_all place ss c.if-place-spans.false ∙ sym all)
