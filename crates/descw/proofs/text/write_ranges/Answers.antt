use Rattle.std.proofs.Common.{◌∙◌, arith}
use Rattle.descw.proofs.Turns.{ranges_text-more}
use Rattle.descw.proofs.text.write_ranges.Goals as goal

pub loop-range-preserved : goal.loop-range-preserved
loop-range-preserved c =
    let written = c.write_range.ensures in
    record {
      text = ranges_text-more c.loop-range.range-index c.loop-range.out.items c.write_range.new.out.items _ c.args.ranges.now c.range-item.result c.loop-range-test.true c.range-item.is written.items c.loop-range.invariant.text;
      len = omega (arith, written.len, c.loop-range.invariant.len);
      capacity = written.capacity ∙ c.loop-range.invariant.capacity;
    }
