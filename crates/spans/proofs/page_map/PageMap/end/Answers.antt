use Rattle.std.proofs.Common.{◌≡◌, ◌∙◌, ◌+◌, ◌-◌, [], List, is_some, length, sym, ap, arith}
use Rattle.spans.specs.Spans.{Span, PageMapView, value_at, end_from}
use Rattle.spans.specs.Blocks.{all_spans}
use Rattle.spans.proofs.Stacked.{no_blocks, value_at-end, value_at-last}
use Rattle.spans.proofs.page_map.PageMap.end.Goals as goal

pub returns-in-Some-clause-behind : goal.returns-in-Some-clause-behind
returns-in-Some-clause-behind c = λ n from.
    let bs = c.self.inside.blocks.list in
    let i = c.in-Some.last in
    let b = c.block.result.now in
    let known = c.in-Some.ensures in
    let last : i + 1 ≡ length bs = omega (arith, c.len.ensures, known.0, known.1) in
    let end = ap (end_from 0) c.spans.ensures.same in
    ap (λ (v : PageMapView). value_at v.spans n) (sym c.self.view_is) ∙ value_at-end bs i n b c.self.invariant.tidy.stacked last (c.block.ensures.block b) (omega (arith, from, end, c.end_of.ensures.same))

pub returns-in-None-clause-behind : goal.returns-in-None-clause-behind
returns-in-None-clause-behind c = λ n from.
    let bs = c.self.inside.blocks.list in
    let gone : all_spans bs ≡ [] = no_blocks bs (omega (arith, c.len.ensures, c.in-None.ensures)) in
    ap (λ (v : PageMapView). value_at v.spans n) (sym c.self.view_is) ∙ ap (λ (l : List Span). value_at l n) gone

pub returns-in-Some-clause-last : goal.returns-in-Some-clause-last
returns-in-Some-clause-last c = λ some.
    let bs = c.self.inside.blocks.list in
    let i = c.in-Some.last in
    let b = c.block.result.now in
    let known = c.in-Some.ensures in
    let last : i + 1 ≡ length bs = omega (arith, c.len.ensures, known.0, known.1) in
    let end : c.end_of.result ≡ end_from 0 b = c.end_of.ensures.same ∙ ap (end_from 0) c.spans.ensures.same in
    ap (λ (v : PageMapView). is_some (value_at v.spans (c.end_of.result - 1))) (sym c.self.view_is) ∙ ap (λ k. is_some (value_at (all_spans bs) (k - 1))) end
    ∙ value_at-last bs i b c.self.invariant.tidy.stacked last (c.block.ensures.block b)
