use Rattle.std.proofs.Common.{◌∙◌, ap, ◌++◌, arith}
use Rattle.base.specs.Descriptors.Encoding.{range_text}
use Rattle.descw.proofs.Turns.{runs_text-more, runs-more}
use Rattle.descw.proofs.text.write_runs.Goals as goal

pub loop-run-preserved : goal.loop-run-preserved
loop-run-preserved c =
    let written = c.write_range.ensures in
    let one = written.items ∙ ap (λ r. c.loop-run.out.items ++ range_text r) c.range_of.ensures.range in
    record {
      text = runs_text-more c.loop-run.run-index c.loop-run.out.items c.write_range.new.out.items _ c.args.runs.now c.run-item.result c.loop-run-test.true c.run-item.is one c.loop-run.invariant.text;
      len = omega (arith, written.len, c.loop-run.invariant.len);
      capacity = written.capacity ∙ c.loop-run.invariant.capacity;
      in_range = runs-more c.loop-run.run-index c.args.runs.now c.run-item.result _ c.loop-run-test.true c.run-item.is c.range_of.ensures.in_range c.loop-run.invariant.in_range;
    }
