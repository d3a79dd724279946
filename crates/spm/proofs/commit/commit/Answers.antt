use Rattle.std.proofs.Common.{Option, ap, sym, subst, ◌∙◌}
use Rattle.base.specs.Manifest.{is_partition}
use Rattle.pool.specs.Pool.{Pool}
use Rattle.stage2.specs.Slot.{Layout}
use Rattle.stage2.proofs.Editing.WholeTables.{turned-same}
use Rattle.stage2.specs.Tables.{TablesView}
use Rattle.rules.specs.Rule.{Edit}
use Rattle.spm.specs.Clearing.{AreRowsOfPartitions, ShowsOne}
use Rattle.spm.specs.Machine.{ShowsEdit}
use Rattle.spm.proofs.ClearingLemmas.{has_its_root}
use Rattle.spm.proofs.QuotaLemmas.{fits_from}
use Rattle.spm.proofs.commit.commit.Goals.{in-Some+in_ok-ready_to_turn-in-Some+in_ok-apply-in-Some, in-None+in_ok-apply-in-None}
use Rattle.spm.proofs.commit.commit.Goals as goal

pub edit_tables-requires-clause-root : goal.edit_tables-requires-clause-root
edit_tables-requires-clause-root g c =
    let m = c.args.state.now.manifest in
    let orderly = rw c.in-Some.is at c.requires.orderly in
    has_its_root m c.ready_to_turn.new.self c.in-Some.edit.who (c.in_ok-ready_to_turn-in-Some.ensures.layout ∙ c.requires.layout) (ap (λ p. is_partition m p) orderly.own ∙ c.requires.known)

pub edit_tables-requires-clause-rows : goal.edit_tables-requires-clause-rows
edit_tables-requires-clause-rows g c = subst (λ (l : Layout). AreRowsOfPartitions l.ids) (sym c.in_ok-ready_to_turn-in-Some.ensures.layout) c.requires.rows

pub edit_tables-requires-clause-turned : goal.edit_tables-requires-clause-turned
edit_tables-requires-clause-turned g c =
    let e = c.in-Some.edit in
    let ready = c.in_ok-ready_to_turn-in-Some.ensures in
    let turned = rw c.in-Some.is at c.requires.turned in
    turned-same e.who e.runs e.to c.args.tables.now c.ready_to_turn.new.self ready.layout (ap (λ (x : Pool). x.memory) ready.pool) turned

pub edit_tables-requires-clause-fits : goal.edit_tables-requires-clause-fits
edit_tables-requires-clause-fits g c =
    let ready = c.in_ok-ready_to_turn-in-Some.ensures in
    let fits = rw c.in-Some.is at c.requires.fits in
    fits_from c.args.state.now.manifest c.ready_to_turn.new.self c.in-Some.edit (ready.layout ∙ c.requires.layout) ready.canonical.trees.orderly.quotas (rw (ready.layout, ready.pool) fits)

pub returns-clause-shown : goal.returns-clause-shown
returns-clause-shown g c = elim c.match-edit.branch [
  | in-Some+in_ok-ready_to_turn-in-Some+in_ok-apply-in-Some w ↦
      let ready = w.in_ok-ready_to_turn-in-Some.ensures in
      let shown : ShowsOne w.in-Some.edit c.args.tables.now w.edit_tables.new.tables = rw (← ready.layout, ← ready.pool) w.edit_tables.ensures.shown in
      subst (λ (e : Option Edit). ShowsEdit e c.args.tables.now c.match-edit.tables) (sym w.in-Some.is)
      (subst (λ (t : TablesView). ShowsOne w.in-Some.edit c.args.tables.now t) (sym w.tables-is) shown)
  | in-None+in_ok-apply-in-None w ↦ subst (λ (e : Option Edit). ShowsEdit e c.args.tables.now c.match-edit.tables) (sym w.in-None.is) tt
]
