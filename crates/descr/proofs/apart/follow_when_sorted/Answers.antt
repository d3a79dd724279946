use Rattle.std.proofs.Common.{ap, ◌∙◌}
use Rattle.descr.specs.Order.{follow}
use Rattle.descr.proofs.Following.{follow-sorted}
use Rattle.descr.proofs.apart.follow_when_sorted.Goals as goal

pub returns : goal.returns
returns c =
    c.follow_each_other.ensures ∙ ap (follow 0) c.deref.ensures.0
    ∙ follow-sorted c.args.ranges.now c.sorted-sorted.result.items c.sorted-sorted.ensures.some c.sorted-sorted.ensures.same c.sorted-sorted.ensures.ascending
