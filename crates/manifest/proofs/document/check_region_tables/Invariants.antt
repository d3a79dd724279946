use Rattle.std.proofs.Common.{◌≡◌, drop}
use Rattle.toml.specs.View.{items_view}
use Rattle.manifest.specs.Document.{tables_pass, has_all_region_keys}
use Rattle.manifest.proofs.document.check_region_tables.Given as goal

abbrev pub invariant-loop-i : goal.invariant-loop-i
invariant-loop-i l = tables_pass has_all_region_keys (items_view (drop l.i l.values)) ≡ tables_pass has_all_region_keys (items_view l.values)
