-- What the name of a desk stands for where nobody has picked one.
use Rattle.std.specs.Prelude.{[]}
use Rattle.base.specs.Manifest.{ManifestRows}
use Rattle.atomic_table.specs.Seated.{TableId}

abbrev pub no_table : TableId
no_table = record {
  words = 0;
  slots = 0;
  views_name = 0;
  atom = 0;
  block = 0;
  offset = 0;
  slot_names = [];
}

abbrev pub no_manifest : ManifestRows
no_manifest = record { pool = 0; partitions = []; regions = [] }

-- what the name of a desk stands for: the table of its passes, and the manifest of its manager
pub record Name : Type 0 where
  pub table : TableId
  pub manifest : ManifestRows
