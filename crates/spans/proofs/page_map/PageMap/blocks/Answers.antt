use Rattle.std.proofs.Common.{length, ap, arith}
use Rattle.spans.specs.Spans.{PageMapView}
use Rattle.spans.proofs.Dense.{dense-count}
use Rattle.spans.proofs.Stacked.{few_in_each}
use Rattle.spans.proofs.page_map.PageMap.blocks.Goals as goal

pub returns-clause-most : goal.returns-clause-most
returns-clause-most c =
    let few = dense-count c.self.inside.blocks.list c.self.invariant.tidy.dense in
    let same = ap (λ (v : PageMapView). length v.spans) c.self.view_is in
    omega (arith, few, same, c.len.ensures)

pub returns-clause-least : goal.returns-clause-least
returns-clause-least c =
    let few = few_in_each c.self.inside.blocks.list c.self.invariant.tidy.stacked.filled in
    let same = ap (λ (v : PageMapView). length v.spans) c.self.view_is in
    omega (arith, few, same, c.len.ensures)
