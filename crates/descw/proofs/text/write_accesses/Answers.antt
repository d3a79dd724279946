use Rattle.std.proofs.Common.{◌∙◌, arith}
use Rattle.descw.proofs.Turns.{accesses_text-more, identifiers-more}
use Rattle.descw.proofs.text.write_accesses.Goals as goal

pub loop-endpoint-preserved : goal.loop-endpoint-preserved
loop-endpoint-preserved c =
    let written = c.write_access.ensures.text in
    record {
      text = accesses_text-more c.loop-endpoint.endpoint-index c.loop-endpoint.out.items c.write_access.new.out.items _ c.args.composite c.args.receivers.now c.endpoint-item.result c.loop-endpoint-test.true c.endpoint-item.is written.items c.loop-endpoint.invariant.text;
      len = omega (arith, written.len, c.loop-endpoint.invariant.len);
      capacity = written.capacity ∙ c.loop-endpoint.invariant.capacity;
      fits = identifiers-more c.loop-endpoint.endpoint-index c.args.receivers.now c.endpoint-item.result _ c.loop-endpoint-test.true c.endpoint-item.is c.write_access.ensures.fits c.loop-endpoint.invariant.fits;
    }
