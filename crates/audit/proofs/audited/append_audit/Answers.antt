use Rattle.std.proofs.Common.{ℕ, Bor, List, ap, subst, ◌∙◌}
use Rattle.base.specs.Ledger.{view}
use Rattle.base.specs.Transactions.{Donation, Live}
use Rattle.stage2.specs.Tables.{AllWalksAre}
use Rattle.audit.proofs.SameEntries.{text-equal, text-differs}
use Rattle.audit.proofs.audited.append_audit.Goals as goal
use Rattle.audit.proofs.audited.append_audit.Goals.{then-have_same_entries, else-have_same_entries}

pub returns : goal.returns
returns g c =
    let m = c.args.manifest.now in
    let ds = c.args.ledger.now.donations in
    let live = c.args.ledger.now.live in
    let t = c.args.tables.now in
    let u = c.in_ok-rebuilt.rebuilt in
    let half : AllWalksAre u.layout (view m ds c.live.result.now) u.pool = subst (λ (x : List Donation). AllWalksAre u.layout (view m x c.live.result.now) u.pool) (c.deref.ensures.value ∙ c.in_ok-donations.ensures) c.in_ok-rebuilt.ensures.agrees in
    let agrees : AllWalksAre u.layout (view m ds live) u.pool = subst (λ (x : List Live). AllWalksAre u.layout (view m ds x) u.pool) c.live.ensures half in
    let text = c.as_bytes.result.now in
    let line = c.if-have_same_entries.line in
    let behind = c.in_ok-extend_from_slice.ensures.items in
    elim c.if-have_same_entries.branch [
      | then-have_same_entries w ↦ (text, (behind, text-equal m ds live t u agrees c.have_same_entries.result text c.have_same_entries.ensures w.if-have_same_entries.true (c.as_bytes.ensures.value ∙ ap (λ (s : Bor (List ℕ)). s.now) w.line-is)))
      | else-have_same_entries w ↦ (text, (behind, text-differs m ds live t u agrees c.have_same_entries.result text c.have_same_entries.ensures w.if-have_same_entries.false (c.as_bytes.ensures.value ∙ ap (λ (s : Bor (List ℕ)). s.now) w.line-is)))
    ]
