use Rattle.std.proofs.Common.{◌≤◌, subst, sym, ◌∙◌}
use Rattle.spm.proofs.SegmentLemmas.{known-free}
use Rattle.spm.proofs.state.State.common_home.Goals as goal

pub known_of-last-requires-clause-known : goal.known_of-last-requires-clause-known
known_of-last-requires-clause-known c = λ n from to.
    known-free c.args.self.now c.args.owner.now.partition c.in_ok-home.home c.first.result _ c.free_segment-segment.result.end (sym c.in_ok-home.was ∙ c.free_segment-segment.ensures.home) c.free_segment-segment.ensures.alike n (subst (λ m. m ≤ n) (c.number.ensures.same ∙ c.first-2.ensures.same ∙ sym c.first.ensures.same) from) to

pub are_all_free_with-requires-clause-first : goal.are_all_free_with-requires-clause-first
are_all_free_with-requires-clause-first c = λ n from to.
    known-free c.args.self.now c.args.owner.now.partition c.in_ok-home.home c.first.result _ c.free_segment-segment.result.end (sym c.in_ok-home.was ∙ c.free_segment-segment.ensures.home) c.free_segment-segment.ensures.alike n (subst (λ m. m ≤ n) (c.number.ensures.same ∙ c.first-2.ensures.same ∙ sym c.first.ensures.same) from) to
