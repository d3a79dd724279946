use Rattle.std.proofs.Common.{◌≡◌, ◌-◌, ◌<◌, ◌++◌, rules, Some, None, length, sym, ap, ◌∙◌, arith}
use Rattle.spans.specs.Edits.{joined}
use Rattle.spans.specs.Spans.{are_joined}
use Rattle.spans.proofs.Same.{one-same, one-joined, next-joined}
use Rattle.spans.proofs.merge.push.Goals as goal

pub returns-in-Some-clause-same : goal.returns-in-Some-clause-same
returns-in-Some-clause-same c =
    let last = c.index-last.result.now in
    let some : 0 < length c.args.out.now.items = search rules in
    let e : joined last c.args.span ≡ Some c.in-Some.whole = sym c.joined.ensures ∙ c.in-Some.is in
    one-same c.args.out.now.items (c.len-end.result - 1) last (omega (arith, some, c.len-end.ensures)) c.index-last.ensures c.args.span c.in-Some.whole e

pub returns-in-Some-clause-joined : goal.returns-in-Some-clause-joined
returns-in-Some-clause-joined c = λ ys a b.
    let last = c.index-last.result.now in
    let some : 0 < length c.args.out.now.items = search rules in
    let e : joined last c.args.span ≡ Some c.in-Some.whole = sym c.joined.ensures ∙ c.in-Some.is in
    one-joined c.args.out.now.items (c.len-end.result - 1) last (omega (arith, some, c.len-end.ensures)) c.index-last.ensures c.args.span c.in-Some.whole e ys a b

pub returns-in-None-clause-joined : goal.returns-in-None-clause-joined
returns-in-None-clause-joined c = λ ys a b.
    let last = c.index-last.result.now in
    let some : 0 < length c.args.out.now.items = search rules in
    let e : joined last c.args.span ≡ None = sym c.joined.ensures ∙ c.in-None.is in
    ap (λ l. are_joined (l ++ ys)) c.push_reserved-in-None.ensures.items
    ∙ next-joined c.args.out.now.items (c.len-end.result - 1) last (omega (arith, some, c.len-end.ensures)) c.index-last.ensures c.args.span ys e a b
