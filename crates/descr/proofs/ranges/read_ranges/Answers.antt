use Rattle.std.proofs.Common.{arith, sym, ◌∙◌}
use Rattle.descr.proofs.Turns.{are_ranges-more}
use Rattle.descr.proofs.ranges.read_ranges.Goals as goal

pub loop-i-preserved : goal.loop-i-preserved
loop-i-preserved c = record {
  at = omega arith;
  rest = are_ranges-more c.args.count c.loop-i._i c.args.bytes.now c.loop-i.at c.loop-i-test.true _ (sym c.is_range.ensures ∙ c.if-not-is_range.false) c.loop-i.invariant.rest;
}
