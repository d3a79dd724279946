use Rattle.std.proofs.Common.{◌≡◌, true, drop, take}
use Rattle.std.specs.List.{list_all}
use Rattle.manifest.specs.Valid.{is_region}
use Rattle.manifest.proofs.draft.to_regions.Given as goal

abbrev pub invariant-loop-draft : goal.invariant-loop-draft
invariant-loop-draft l = record {
  same : l.regions.items ≡ take l.draft-index l.drafts;
  legal : list_all is_region (drop l.draft-index l.drafts) ≡ true;
}
