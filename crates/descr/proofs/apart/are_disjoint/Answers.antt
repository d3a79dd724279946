use Rattle.std.proofs.Common.{◌^◌, sym, ◌∙◌}
use Rattle.descr.proofs.Following.{disjoint-from_fall, disjoint-from_follow}
use Rattle.descr.proofs.apart.are_disjoint.Goals as goal

pub returns-then-ascend : goal.returns-then-ascend
returns-then-ascend c = sym (disjoint-from_follow 0 c.args.ranges.now (sym c.ascend.ensures ∙ c.if-ascend.true))

pub returns-then-descend : goal.returns-then-descend
returns-then-descend c = sym (disjoint-from_fall (2 ^ 27) c.args.ranges.now (sym c.descend.ensures ∙ c.if-descend.true))
