use Rattle.std.proofs.Common.{◌∙◌, arith}
use Rattle.ledger.proofs.Halving.{sent-between}
use Rattle.ledger.proofs.live.halved_of.Goals as goal

pub overflow_sub-result : goal.overflow_sub-result
overflow_sub-result c =
    let n = sent-between c.args.p c.new-first.result c.from_bits-next.result c.args.live.now c.point_of-2.result c.point_of.result (c.new-first.ensures ∙ omega arith) (omega (arith, c.bits.ensures.same, c.from_bits-next.ensures)) c.point_of-2.ensures c.point_of.ensures c.requires.named in
    omega (arith, n)

pub returns : goal.returns
returns c =
    let n = sent-between c.args.p c.new-first.result c.from_bits-next.result c.args.live.now c.point_of-2.result c.point_of.result (c.new-first.ensures ∙ omega arith) (omega (arith, c.bits.ensures.same, c.from_bits-next.ensures)) c.point_of-2.ensures c.point_of.ensures c.requires.named in
    omega (arith, n)
