-- What calls of `next` give.
use Rattle.std.proofs.Common.{length, ap}
use Rattle.std.specs.Iterator.{YieldsFirst}
use Rattle.std.specs.Iterator.Runs.{YieldsInOrder}
use Rattle.std.proofs.iter.runs.Sources.{from_front, as_is}
use Rattle.base.specs.Pages.{PageRun}

pub yields_in_order : YieldsInOrder (YieldsFirst {A = PageRun} (λ ranges. ranges)) (λ ranges. ranges)
yields_in_order p seen =
    as_is p p.from (from_front (YieldsFirst {A = PageRun} (λ ranges. ranges)) (λ x. x) (λ ranges. ranges) (λ s t h. ap length h.0) (λ s x t h. h) p seen)
