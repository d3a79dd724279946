use Rattle.std.proofs.Common.{◌≡◌, ◌∙◌, ◌<◌, ◌&&◌, true, false, Bool, eqb, leb, length, refl, sym, ap, subst, arith}
use Rattle.std.proofs.lemmas.List.{take_all}
use Rattle.spans.specs.Spans.{Span, end_of, end_from}
use Rattle.spans.proofs.Others.{has-there, has-none, other_number, same_number}
use Rattle.spans.proofs.taking.has_value.Goals as goal

pub returns-then-place-spans : goal.returns-then-place-spans
returns-then-place-spans c =
    let ss = c.args.spans.now in
    let all = ap (end_from 0) (take_all c.place_near_end-place.result ss (omega (arith, c.if-place-spans.true))) in
    sym (has-none c.args.value c.args.page ss c.requires (omega (arith, all, c.place_near_end-place.ensures.place.below)))

with_true : (a b : Bool) → a ≡ true → (a && b) ≡ b
with_true true b e = refl
with_true false b e = absurd cc

with_false : (a b : Bool) → a ≡ false → (a && b) ≡ false
with_false true b e = absurd cc
with_false false b e = refl

pub returns-then-span-value : goal.returns-then-span-value
returns-then-span-value c =
    let ss = c.args.spans.now in
    let s = c.index-spans-place.result in
    let e = c.place_near_end-place.ensures.place in
    let lt : c.place_near_end-place.result < length ss = omega (arith, c.if-place-spans.false, e.inside) in
    let above : c.args.page < end_of s.run = subst (λ (x : Span). c.args.page < end_of x.run) (sym c.index-spans-place.is) (e.above s lt) in
    let has = has-there c.args.value c.args.page c.place_near_end-place.result ss s c.requires lt c.index-spans-place.is e.below above in
    let value = ap (λ (x : Span). x.value) c.span.view_is in
    let first = c.number.ensures.same ∙ c.first.ensures.same ∙ ap (λ (x : Span). x.run.first) c.span.view_is in
    ap (λ k. leb k c.args.page) first ∙ sym (has ∙ with_true (eqb s.value c.args.value) (leb s.run.first c.args.page) (same_number s.value c.args.value (sym value ∙ c.if-span-value.true)))

pub returns-else-span-value : goal.returns-else-span-value
returns-else-span-value c =
    let ss = c.args.spans.now in
    let s = c.index-spans-place.result in
    let e = c.place_near_end-place.ensures.place in
    let lt : c.place_near_end-place.result < length ss = omega (arith, c.if-place-spans.false, e.inside) in
    let above : c.args.page < end_of s.run = subst (λ (x : Span). c.args.page < end_of x.run) (sym c.index-spans-place.is) (e.above s lt) in
    let has = has-there c.args.value c.args.page c.place_near_end-place.result ss s c.requires lt c.index-spans-place.is e.below above in
    let value = ap (λ (x : Span). x.value) c.span.view_is in
    let other = other_number s.value c.args.value (λ e. c.if-span-value.false (value ∙ e)) in
    ap (λ k. eqb k c.args.value) value ∙ other ∙ sym (has ∙ with_false (eqb s.value c.args.value) (leb s.run.first c.args.page) other)
