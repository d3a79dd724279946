use Rattle.std.proofs.Common.{◌≡◌, ℕ, List, sym, ap, subst, ◌∙◌}
use Rattle.base.specs.Access.{View}
use Rattle.base.specs.Pages.{PageRun}
use Rattle.stage2.specs.Tables.{ReachSo, EditsInStep}
use Rattle.rules.specs.Rule.{Edit}
use Rattle.spm.proofs.ClearingLemmas.{unmapped-shown, mapped-shown}
use Rattle.spm.proofs.commit.edit_tables.Goals as goal

-- what the edit's own fields say
of_edit : (P : ℕ → List PageRun → View → Type 0) (edit : Edit) (who : ℕ) (runs : List PageRun) (access : View) → who ≡ edit.who → runs ≡ edit.runs → access ≡ edit.to → P who runs access → P edit.who edit.runs edit.to
of_edit P edit who runs access p rs a h = subst (λ (x : View). P edit.who edit.runs x) a (subst (λ (x : List PageRun). P edit.who x access) rs (subst (λ x. P x runs access) p h))

pub returns-in-Some-clause-shown : goal.returns-in-Some-clause-shown
returns-in-Some-clause-shown g c =
    let old = c.args.tables.now in
    let mid = c.clear_pages.new.tables in
    let new = c.turn.new.self in
    let edit = c.args.edit.now in
    let who = ap (λ (e : Edit). e.who) c.edit.view_is in
    let runs = c.of-runs.ensures ∙ c.deref.ensures.value ∙ ap (λ (e : Edit). e.runs) c.edit.view_is in
    let to = sym c.in-Some.is ∙ ap (λ (e : Edit). e.to) c.edit.view_is in
    mapped-shown edit old mid new c.requires.root c.requires.rows c.in-Some.access (sym to) c.clear_pages.ensures.layout c.clear_pages.ensures.memory c.turn.ensures.layout
    (of_edit (λ p rs a. ReachSo p rs a mid new) edit _ _ _ who runs to c.turn.ensures.walks) (of_edit (λ p rs a. EditsInStep p rs a mid new) edit _ _ _ who runs to c.turn.ensures.in_step) c.clear_pages.ensures.in_step c.turn.ensures.canonical.listed

pub returns-in-None-clause-shown : goal.returns-in-None-clause-shown
returns-in-None-clause-shown g c =
    let old = c.args.tables.now in
    let mid = c.turn-in-None.new.self in
    let new = c.clear_pages-in-None.new.tables in
    let edit = c.args.edit.now in
    let who = ap (λ (e : Edit). e.who) c.edit.view_is in
    let runs = c.of-runs.ensures ∙ c.deref.ensures.value ∙ ap (λ (e : Edit). e.runs) c.edit.view_is in
    let to = sym c.in-None.is ∙ ap (λ (e : Edit). e.to) c.edit.view_is in
    unmapped-shown edit old mid new c.requires.root c.requires.rows (sym to) c.turn-in-None.ensures.layout c.clear_pages-in-None.ensures.layout c.clear_pages-in-None.ensures.memory
    (of_edit (λ p rs a. ReachSo p rs a old mid) edit _ _ _ who runs to c.turn-in-None.ensures.walks) (of_edit (λ p rs a. EditsInStep p rs a old mid) edit _ _ _ who runs to c.turn-in-None.ensures.in_step) c.clear_pages-in-None.ensures.in_step (c.clear_pages-in-None.ensures.listed c.turn-in-None.ensures.canonical.listed)
