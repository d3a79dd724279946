use Rattle.std.proofs.Common.{◌≡◌, ℕ, ◌≤◌, ◌<◌, cond, None, Some, refl, ap, sym, subst, ◌∙◌, arith}
use Rattle.base.specs.Access.{View}
use Rattle.base.specs.State.{State, free_home}
use Rattle.ledger.specs.Free.{idle_home}
use Rattle.spm.proofs.SegmentLemmas.{home-of, free-alike}
use Rattle.spm.proofs.state.State.free_segment.Goals.{then-contains, else-contains}
use Rattle.spm.proofs.state.State.free_segment.Goals as goal

pub returns-after-contains-clause-home : goal.returns-after-contains-clause-home
returns-after-contains-clause-home c =
    let idle = subst (λ (t : State). (n : ℕ) → c.args.page ≤ n → n < c.segment-segment.result.end → idle_home t.manifest t.donations t.live c.args.owner.now.partition n ≡ c.idle_home-home.result) c.self.view_is (λ n from to. c.idle_home-home.ensures c.self.inside.ledger.manifest c.self.inside.ledger.donations c.self.inside.ledger.live n (c.segment-segment.ensures.alike n from to)) in
    let s = c.args.self.now in
    let home = c.idle_home-home.result in
    let here = home-of s c.args.owner.now.partition (Some c.in-Some.pair) c.args.page c.segment-segment.result.end home c.requires.reached (sym c.in-Some.is ∙ c.requires.own) idle c.args.page (omega arith) c.segment-segment.ensures.behind in
    let found : (b : View) → b ≡ cond c.contains.result None home → b ≡ free_home s c.args.owner.now.partition c.args.page = λ b e. e ∙ ap (λ h. cond h None home) c.contains.ensures ∙ sym here in
    elim c.if-contains.branch [
      | then-contains w ↦ found c.if-contains.result (w.result-is ∙ ap (λ h. cond h None home) (sym w.if-contains.true))
      | else-contains w ↦ found c.if-contains.result (w.result-is ∙ ap (λ h. cond h None home) (sym w.if-contains.false))
    ]

pub returns-after-contains-clause-alike : goal.returns-after-contains-clause-alike
returns-after-contains-clause-alike c =
    let idle = subst (λ (t : State). (n : ℕ) → c.args.page ≤ n → n < c.segment-segment.result.end → idle_home t.manifest t.donations t.live c.args.owner.now.partition n ≡ c.idle_home-home.result) c.self.view_is (λ n from to. c.idle_home-home.ensures c.self.inside.ledger.manifest c.self.inside.ledger.donations c.self.inside.ledger.live n (c.segment-segment.ensures.alike n from to)) in
    free-alike c.args.self.now c.args.owner.now.partition (Some c.in-Some.pair) c.args.page c.segment-segment.result.end c.idle_home-home.result c.requires.reached (sym c.in-Some.is ∙ c.requires.own) idle
    c.min-end.result c.until.result c.args.limit c.until.ensures (omega (arith, c.min-end.ensures)) (omega (arith, c.min-end.ensures))

pub returns-in-None-clause-home : goal.returns-in-None-clause-home
returns-in-None-clause-home c =
    let idle = subst (λ (t : State). (n : ℕ) → c.args.page ≤ n → n < c.segment-segment.result.end → idle_home t.manifest t.donations t.live c.args.owner.now.partition n ≡ c.idle_home-home.result) c.self.view_is (λ n from to. c.idle_home-home.ensures c.self.inside.ledger.manifest c.self.inside.ledger.donations c.self.inside.ledger.live n (c.segment-segment.ensures.alike n from to)) in
    sym (home-of c.args.self.now c.args.owner.now.partition None c.args.page c.segment-segment.result.end c.idle_home-home.result c.requires.reached (sym c.in-None.is ∙ c.requires.own) idle c.args.page (omega arith) c.segment-segment.ensures.behind)

pub returns-in-None-clause-alike : goal.returns-in-None-clause-alike
returns-in-None-clause-alike c =
    let idle = subst (λ (t : State). (n : ℕ) → c.args.page ≤ n → n < c.segment-segment.result.end → idle_home t.manifest t.donations t.live c.args.owner.now.partition n ≡ c.idle_home-home.result) c.self.view_is (λ n from to. c.idle_home-home.ensures c.self.inside.ledger.manifest c.self.inside.ledger.donations c.self.inside.ledger.live n (c.segment-segment.ensures.alike n from to)) in
    free-alike c.args.self.now c.args.owner.now.partition None c.args.page c.segment-segment.result.end c.idle_home-home.result c.requires.reached (sym c.in-None.is ∙ c.requires.own) idle
    c.min-end.result c.min-end.result c.args.limit (record { behind = omega (arith, c.min-end.ensures, c.segment-segment.ensures.behind, c.requires.inside); inside = omega arith; alike = λ n from to. refl }) (omega (arith, c.min-end.ensures)) (omega (arith, c.min-end.ensures))
