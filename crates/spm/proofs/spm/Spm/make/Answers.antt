use Rattle.std.proofs.Common.{◌≡◌, refl, sym, ap, subst, ◌∙◌}
use Rattle.base.specs.declared.status.Status.TheVariants.{NoMemory}
use Rattle.rules.specs.Run.{rule_of, step}
use Rattle.rules.proofs.Laws.EditsTheView.{edits_the_view}
use Rattle.spm.specs.Granted.{updated}
use Rattle.spm.specs.Machine.{Machine, WalksAgree, ShowsCall}
use Rattle.spm.proofs.ConsistencyLemmas.{commit_kept}
use Rattle.spm.proofs.MadeLemmas.{IsMade, IsUnfit, made, unfit}
use Rattle.spm.proofs.ShownLemmas.{commit-shown, commit-cleared, same-shown, turned_alike}
use Rattle.spm.proofs.ClearingLemmas.{rows_of_partitions}
use Rattle.spm.proofs.ClearedLemmas.{refused_clears, clears_on_ok}
use Rattle.spm.proofs.spm.Spm.make.Given.{Over}
use Rattle.spm.proofs.spm.Spm.make.Goals as goal

change_made : (g : Over) (c : goal.After-commit g) → IsMade c.args.self.now c.self.inside.state c.args.call.now c.args.change
change_made g c =
    made c.args.self.now c.self.inside.state c.self.inside.tables c.args.call.now c.args.change c.self.view_is c.requires.granted c.self.invariant
    (sym (c.fits.ensures c.self.inside.state.manifest c.self.invariant.layout_of_manifest) ∙ c.if-fits.true)

next_made : (g : Over) (c : goal.After-commit g) → updated c.self.inside.state c.partition-p.result c.args.change.update ≡ updated c.self.inside.state c.args.call.now.caller c.args.change.update
next_made g c = ap (λ p. updated c.self.inside.state p c.args.change.update) c.partition-p.ensures.same

pub invariant_of-self : goal.invariant_of-self
invariant_of-self g c =
    let s = c.self.inside.state in
    let t = c.self.inside.tables in
    let is = change_made g c in
    commit_kept c.commit.result s c.commit.new.state c.args.call.now is.request t.layout c.commit.new.tables.layout t.pool c.commit.new.tables.pool c.args.change.edit (updated s c.partition-p.result c.args.change.update)
    c.partition-p.ensures.is_call is.passes is.same (next_made g c ∙ is.next) c.commit.ensures.state c.commit.ensures.edited c.commit.ensures.layout c.commit.ensures.err_state c.commit.ensures.err_pool c.self.invariant

pub returns-then-fits-clause-reply : goal.returns-then-fits-clause-reply
returns-then-fits-clause-reply g c = rw (← (change_made g c).reply) c.commit.ensures.reply

pub returns-then-fits-clause-state : goal.returns-then-fits-clause-state
returns-then-fits-clause-state g c =
    let same : updated c.self.inside.state c.partition-p.result c.args.change.update ≡ step c.args.self.now.state c.args.call.now = next_made g c ∙ (change_made g c).state in
    rw (← same) c.commit.ensures.state

pub returns-then-fits-clause-refused : goal.returns-then-fits-clause-refused
returns-then-fits-clause-refused g c = rw (change_made g c).accepted (λ h. absurd cc)

pub returns-then-fits-clause-moves_no_page : goal.returns-then-fits-clause-moves_no_page
returns-then-fits-clause-moves_no_page g c = λ e. c.commit.ensures.moves_no_page ((change_made g c).still e) ∙ ap (λ (m : Machine). m.pool) c.self.view_is

pub returns-then-fits-clause-moments : goal.returns-then-fits-clause-moments
returns-then-fits-clause-moments g c =
    let s = c.self.inside.state in
    let t = c.self.inside.tables in
    let is = change_made g c in
    let kept = invariant_of-self g c in
    let placed = c.self.invariant.layout_of_manifest in
    let begun = ap (λ (m : Machine). m.pool.operations) c.self.view_is ∙ c.requires.begun in
    let shown = commit-shown c.commit.result s c.commit.new.state (updated s c.partition-p.result c.args.change.update) c.args.call.now is.request t c.commit.new.tables c.args.change.edit placed (sym kept.layout_of_manifest ∙ c.commit.ensures.layout ∙ placed)
    c.self.invariant.agrees kept.agrees begun c.self.invariant.reached is.passes is.same (next_made g c ∙ is.next) c.commit.ensures.state c.commit.ensures.shown c.commit.ensures.moves_no_page c.commit.ensures.err_state c.commit.ensures.err_pool in
    subst (λ (m : Machine). ShowsCall m (record { state = c.commit.new.state; pool = c.commit.new.tables.pool })) c.self.view_is shown

change_unfit : (g : Over) (c : goal.Joined-change-3 g) → IsUnfit c.args.self.now c.self.inside.state c.args.call.now
change_unfit g c =
    unfit c.args.self.now c.self.inside.state c.self.inside.tables c.args.call.now c.args.change c.self.view_is c.requires.granted c.self.invariant
    (sym (c.fits.ensures c.self.inside.state.manifest c.self.invariant.layout_of_manifest) ∙ c.if-fits.false)

pub commit-requires-clause-rows : goal.commit-requires-clause-rows
commit-requires-clause-rows g c = rows_of_partitions c.self.inside.state.manifest c.self.inside.tables.layout c.self.invariant.layout_of_manifest c.self.invariant.reached.valid

pub commit-requires-clause-turned : goal.commit-requires-clause-turned
commit-requires-clause-turned g c =
    let s = c.self.inside.state in
    let t = c.self.inside.tables in
    let is = made c.args.self.now s t c.args.call.now c.args.change c.self.view_is c.requires.granted c.self.invariant (sym (c.fits.ensures s.manifest c.self.invariant.layout_of_manifest) ∙ c.if-fits.true) in
    turned_alike s t (rule_of s c.args.call.now is.request).edit c.args.change.edit c.self.invariant.layout_of_manifest c.self.invariant.agrees is.same
    (edits_the_view s c.args.call.now is.request c.self.invariant.reached is.passes.tests).turned

pub returns-then-fits-clause-clears : goal.returns-then-fits-clause-clears
returns-then-fits-clause-clears g c =
    let s = c.self.inside.state in
    let t = c.self.inside.tables in
    let is = change_made g c in
    let kept = invariant_of-self g c in
    let placed = c.self.invariant.layout_of_manifest in
    let begun = ap (λ (m : Machine). m.pool.operations) c.self.view_is ∙ c.requires.begun in
    let cleared = commit-cleared c.commit.result s c.commit.new.state (updated s c.partition-p.result c.args.change.update) c.args.call.now is.request t c.commit.new.tables c.args.change.edit placed (sym kept.layout_of_manifest ∙ c.commit.ensures.layout ∙ placed)
    c.self.invariant.agrees kept.agrees begun c.self.invariant.reached is.passes is.same (next_made g c ∙ is.next) c.commit.ensures.state c.commit.ensures.shown c.commit.ensures.moves_no_page in
    clears_on_ok c.commit.result c.args.self.now.state c.args.call.now (record { state = c.commit.new.state; pool = c.commit.new.tables.pool }) c.args.change.edit is.accepted is.edits is.orderly cleared

pub returns-else-fits-clause-clears : goal.returns-else-fits-clause-clears
returns-else-fits-clause-clears g c = refused_clears c.args.self.now.state c.args.call.now c.args.self.now NoMemory (change_unfit g c).refuses c.requires.begun

pub returns-then-fits-clause-agrees : goal.returns-then-fits-clause-agrees
returns-then-fits-clause-agrees g c = (invariant_of-self g c).agrees

pub returns-then-fits-clause-reached : goal.returns-then-fits-clause-reached
returns-then-fits-clause-reached g c = (invariant_of-self g c).reached

pub returns-else-fits-clause-reply : goal.returns-else-fits-clause-reply
returns-else-fits-clause-reply g c = c.error.ensures ∙ (change_unfit g c).reply

pub returns-else-fits-clause-state : goal.returns-else-fits-clause-state
returns-else-fits-clause-state g c = ap (λ (m : Machine). m.state) (sym c.self.view_is) ∙ (change_unfit g c).state

pub returns-else-fits-clause-moments : goal.returns-else-fits-clause-moments
returns-else-fits-clause-moments g c =
    let now = c.args.self.now in
    same-shown now now (subst (λ (m : Machine). WalksAgree m.state m.pool) c.self.view_is c.self.invariant.agrees) c.requires.begun refl
