use Rattle.std.proofs.Common.{◌≤◌, subst, sym, ◌∙◌}
use Rattle.spm.proofs.SegmentLemmas.{reached-free, reached-fails}
use Rattle.spm.proofs.state.State.known_from.Goals as goal

pub returns-then-is_reached_with-clause-known : goal.returns-then-is_reached_with-clause-known
returns-then-is_reached_with-clause-known c = λ n from to.
    reached-free c.args.self.now c.args.owner.now.partition c.args.home c.args.page _ c.free_segment-segment.result.end c.free_segment-segment.result.value c.free_segment-segment.ensures.home
    (sym c.is_reached_with.ensures ∙ c.if-is_reached_with.true) c.free_segment-segment.ensures.alike n (subst (λ m. m ≤ n) c.number-first.ensures.same from) to

pub returns-else-is_reached_with-clause-none : goal.returns-else-is_reached_with-clause-none
returns-else-is_reached_with-clause-none c = λ none.
    reached-fails c.args.self.now c.args.owner.now.partition c.args.home c.args.page c.free_segment-segment.result.value c.free_segment-segment.ensures.home (sym c.is_reached_with.ensures ∙ c.if-is_reached_with.false)
