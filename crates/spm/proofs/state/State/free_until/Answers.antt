use Rattle.std.proofs.Common.{◌≡◌, ◌∙◌, refl, sym, ap, arith}
use Rattle.base.specs.State.{is_free_with}
use Rattle.spm.proofs.SegmentLemmas.{each_page-over, each_page-fails, each_page-done}
use Rattle.spm.proofs.state.State.free_until.Goals as goal

pub loop-known-init : goal.loop-known-init
loop-known-init c = record { rest = refl; known = λ n from to. absurd (omega (arith, from, to)) }

pub loop-known-preserved : goal.loop-known-preserved
loop-known-preserved c =
    let f = is_free_with c.args.self.now c.args.owner.now.partition c.args.home in
    let found = c.known_from-found in
    let first : found.result.first ≡ c.loop-known.known.end = found.ensures.first ∙ c.new.ensures in
    record {
      rest = each_page-over f c.args.end c.loop-known.known.end found.result.end (omega (arith, first, c.if-found.false)) (omega (arith, c.loop-known-test.true)) (λ m from to. found.ensures.known m (omega (arith, first, from)) to) ∙ c.loop-known.invariant.rest;
      known = found.ensures.known;
    }

pub returns-then-found-clause-none : goal.returns-then-found-clause-none
returns-then-found-clause-none c =
    let f = is_free_with c.args.self.now c.args.owner.now.partition c.args.home in
    sym c.loop-known.invariant.rest ∙ each_page-fails f c.args.end c.loop-known.known.end c.loop-known-test.true (ap f (sym c.new.ensures) ∙ c.known_from-found.ensures.none c.if-found.true)

pub returns-clause-some : goal.returns-clause-some
returns-clause-some c =
    let f = is_free_with c.args.self.now c.args.owner.now.partition c.args.home in
    sym c.loop-known.invariant.rest ∙ each_page-done f c.args.end c.loop-known.known.end c.loop-known-test.false
