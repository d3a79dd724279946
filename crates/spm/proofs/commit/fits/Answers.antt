use Rattle.std.proofs.Common.{◌≡◌, ℕ, ◌+◌, leb, Bool, List, Some, ap, ◌∙◌}
use Rattle.base.specs.Access.{View}
use Rattle.base.specs.Manifest.{ManifestRows, row_of}
use Rattle.base.specs.Need.{need, grow, reaching}
use Rattle.base.specs.Pages.{PageRun}
use Rattle.pool.specs.Pool.{row_quota}
use Rattle.rules.specs.Rule.{Edit}
use Rattle.spm.specs.Machine.{fits_in}
use Rattle.stage2.specs.Slot.{Layout, layout_of}
use Rattle.stage2.specs.Tables.{TablesView, view_of}
use Rattle.spm.proofs.QuotaLemmas.{quota_at}
use Rattle.spm.proofs.commit.fits.Goals as goal

-- what the tables tell of an edit
told : (t : TablesView) (m : ManifestRows) (e : Edit) (p : ℕ) (runs : List PageRun) (to : View) (answer : Bool) → e.who ≡ p → runs ≡ e.runs → to ≡ e.to → t.layout ≡ layout_of m
    → answer ≡ leb (need (view_of t p) + grow (view_of t p) (reaching runs to (view_of t p))) (row_quota t.layout.quotas (row_of t.layout.ids p)) → answer ≡ fits_in m t (Some e)
told t m e p runs to answer own is same placed said =
    let view : ℕ → View = view_of t p in
    let quota = ap (λ (l : Layout). row_quota l.quotas (row_of l.ids p)) placed ∙ quota_at m.partitions p in
    rw own (rw (is, same) at said ∙ ap (leb (need view + grow view (reaching e.runs e.to view))) quota)

pub returns-in-Some : goal.returns-in-Some
returns-in-Some g c = λ m placed.
    let orderly = rw c.in-Some.is at c.requires.orderly in
    let runs = c.of.ensures ∙ c.deref.ensures.value ∙ ap (λ (e : Edit). e.runs) c.edit.view_is in
    let to = ap (λ (e : Edit). e.to) c.edit.view_is in
    rw c.in-Some.is (told c.args.tables.now m c.in-Some.edit c.args.p c.of.result c.edit.inside.to c.fits.result orderly.own runs to placed c.fits.ensures)
