-- What a reader of tables sees.
use Rattle.std.specs.Prelude.{ℕ, ◌==◌, List, [], position}
use Rattle.std.specs.Option.{option_map_or}
use Rattle.pool.specs.Pool.{words_of}
use Rattle.stage2.specs.declared.reader.Source.{Source}
use Rattle.stage2.specs.declared.reader.Source.TheVariants.{Layout as OfLayout, Manifest as OfManifest}
use Rattle.stage2.specs.Reading.{TableEntry, tree_entries}
use Rattle.stage2.specs.Slot.{Layout, layout_of}
use Rattle.stage2.specs.Sound.{TablesView}

-- where the tables lie, and the words of all pages
pub record Reading : Type 0 where
  pub layout : Layout
  pub words : List ℕ

-- what a reader sees of tables
abbrev pub reading_of : TablesView → Reading
reading_of t = record { layout = t.layout; words = t.pool.memory.words }

-- where the tables lie that a source speaks of
abbrev pub layout_in : Source → Layout
layout_in (OfLayout layout) = layout.now
layout_in (OfManifest manifest) = layout_of manifest.now

-- the entries of a partition's tables; none where it has no row
abbrev pub entries_of : Reading → ℕ → List TableEntry
entries_of r p =
    option_map_or (λ root. tree_entries r.layout.base r.layout.pages (words_of r.words) root)
    (position (λ id. id == p) r.layout.ids) []
