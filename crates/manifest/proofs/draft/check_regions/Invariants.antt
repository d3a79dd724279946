use Rattle.std.proofs.Common.{◌≡◌, drop}
use Rattle.std.specs.List.{list_all}
use Rattle.manifest.specs.Valid.{is_region_row}
use Rattle.manifest.proofs.draft.check_regions.Given as goal

abbrev pub invariant-loop-region : goal.invariant-loop-region
invariant-loop-region l = list_all is_region_row (drop l.region-index l.regions) ≡ list_all is_region_row l.regions
