-- The texts of views that are alike on all pages are the same.
use Rattle.std.proofs.Common.{◌≡◌, ℕ, ◌^◌, ◌<◌, ◌++◌, List, length, ap, ap₂}
use Rattle.std.specs.List.{flat_map}
use Rattle.base.specs.Access.{View, is_same}
use Rattle.stage2.specs.Listing.{Listed}
use Rattle.audit.specs.Runs.{ReachedRun}
use Rattle.audit.specs.Texts.{maps_header, maps_line, maps_text, tables_header, entry_line, tables_text}
use Rattle.base.proofs.MaximalRuns.{runs-same}
use Rattle.stage2.proofs.Reading.SameViews.{entries-same, need-same}

pub maps-same : (p : ℕ) (v w : ℕ → View) → ((n : ℕ) → n < 2 ^ 27 → w n ≡ v n) → maps_text p w ≡ maps_text p v
unfolding maps_text
maps-same p v w alike = ap (λ (runs : List ReachedRun). maps_header p (length runs) ++ flat_map maps_line runs) (runs-same is_same v w (2 ^ 27) alike)

pub tables-same : (p : ℕ) (v w : ℕ → View) → ((n : ℕ) → n < 2 ^ 27 → w n ≡ v n) → tables_text p w ≡ tables_text p v
unfolding tables_text
tables-same p v w alike = ap₂ (λ (count : ℕ) (es : List Listed). tables_header p count ++ flat_map entry_line es) (need-same v w alike) (entries-same v w alike)
