use Rattle.std.proofs.Common.{◌+◌, ◌-◌, ◌<◌, false, sym, subst, ◌∙◌, arith}
use Rattle.std.specs.Option.{option_map_or}
use Rattle.base.specs.Access.{View, Access, is_rw}
use Rattle.base.specs.Alike.{IsAlikeUntil}
use Rattle.base.specs.State.{free_home}
use Rattle.rules.specs.Calls.Buffers.{may_be_buffer}
use Rattle.spm.proofs.SegmentLemmas.{may_be_buffer-by, segment-holds, segment-fails}
use Rattle.spm.proofs.calls.buffers.may_be_buffers.Goals as goal

pub returns-then-not-is_read_write : goal.returns-then-not-is_read_write
returns-then-not-is_read_write c =
    let s = c.args.state.now in
    sym (segment-fails (may_be_buffer s c.args.p) (free_home s c.args.p) (λ (home : View). option_map_or (λ (access : Access). is_rw access.rights) home false) (may_be_buffer-by s c.args.p) (c.args.run.first + c.args.run.count) c.loop-number.number c.new.result _
    c.free_segment-segment.result.value c.new.ensures (rw c.owner-owner.ensures.partition at c.free_segment-segment.ensures.home) c.loop-number.invariant.rest (omega (arith, c.loop-number-test.true, c.end.ensures.same)) (sym c.is_read_write.ensures ∙ c.if-not-is_read_write.true))

pub loop-number-smaller : goal.loop-number-smaller
loop-number-smaller c =
    let smaller : c.args.run.first + c.args.run.count - c.free_segment-segment.result.end < c.args.run.first + c.args.run.count - c.loop-number.number
    = omega (arith, c.free_segment-segment.ensures.alike.behind, c.new.ensures, c.loop-number-test.true, c.end.ensures.same) in
    smaller

pub loop-number-preserved : goal.loop-number-preserved
loop-number-preserved c =
    let s = c.args.state.now in
    let end = c.args.run.first + c.args.run.count in
    let alike = subst (λ e. IsAlikeUntil (free_home s c.args.p) c.new.result e c.free_segment-segment.result.end) c.end-in-loop-number.ensures.same (rw c.owner-owner.ensures.partition at c.free_segment-segment.ensures.alike) in
    record {
      inside = alike.inside;
      rest = segment-holds (may_be_buffer s c.args.p) (free_home s c.args.p) (λ (home : View). option_map_or (λ (access : Access). is_rw access.rights) home false) (may_be_buffer-by s c.args.p) end c.loop-number.number c.new.result _
          c.free_segment-segment.result.value c.new.ensures (rw c.owner-owner.ensures.partition at c.free_segment-segment.ensures.home) c.loop-number.invariant.rest c.free_segment-segment.result.end alike (sym c.is_read_write.ensures ∙ c.if-not-is_read_write.false);
    }
