use Rattle.std.proofs.Common.{◌≡◌, ℕ, List, ◌++◌, ap, ◌∙◌}
use Rattle.std.specs.Prelude.{codes}
use Rattle.script.proofs.Worlds.{tables_show, have_entries, audited_equal}
use Rattle.script.proofs.world.World.audit.Goals as goal

pub returns : goal.returns
returns g c =
    let s = c.args.self.now.spm.state in
    let t = c.tables.result.now in
    let have = have_entries s t (tables_show s t c.args.self.now.spm.pool c.tables.ensures.layout c.tables.ensures.pool c.tables.ensures.agrees) in
    let said = c.in_ok-append_audit.ensures in
    let equal : said.0 ≡ codes "equal\n" =
    audited_equal c.manifest-manifest.result.now c.ledger.result.now.donations c.ledger.result.now.live s t _ c.manifest-manifest.ensures c.ledger.ensures.donations c.ledger.ensures.live have said.1.1 in
    said.1.0 ∙ ap (λ (line : List ℕ). c.args.text.now.items ++ line) equal
