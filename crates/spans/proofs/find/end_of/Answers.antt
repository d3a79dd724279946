use Rattle.std.proofs.Common.{◌-◌, ◌<◌, ◌∙◌, length, ap, rules, arith}
use Rattle.spans.specs.Spans.{Span, end_of}
use Rattle.spans.proofs.Ascending.{end_from-last}
use Rattle.spans.proofs.find.end_of.Goals as goal

pub returns-clause-same : goal.returns-clause-same
returns-clause-same c =
    let some : 0 < length c.args.spans.now = search rules in
    let last = end_from-last c.args.spans.now (length c.args.spans.now - 1) c.index-spans-spans.result (omega arith) in
    let same = ap (λ (s : Span). end_of s.run) (c.last.view_is ∙ c.index-spans-spans.is) in
    omega (arith, last, same, c.end.ensures.same)
