use Rattle.std.proofs.Common.{arith, sym, ◌∙◌}
use Rattle.descr.proofs.Turns.{are_accesses-more, endpoints_at-more}
use Rattle.descr.proofs.access.read_endpoints.Goals as goal

pub loop-i-preserved : goal.loop-i-preserved
loop-i-preserved c = record {
  at = omega arith;
  len = omega arith;
  items = rw c.push.ensures.items (endpoints_at-more c.args.count c.loop-i._i c.args.bytes.now c.loop-i.at c.loop-i-test.true _ _ _ c.endpoint_at.ensures c.loop-i.invariant.items);
  rest = are_accesses-more c.args.count c.loop-i._i c.args.bytes.now c.loop-i.at c.loop-i-test.true _ _ (sym c.is_access.ensures ∙ c.if-not-is_access.false) c.loop-i.invariant.rest;
}
