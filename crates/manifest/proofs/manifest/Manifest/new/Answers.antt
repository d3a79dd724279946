use Rattle.std.proofs.Common.{◌≡◌, true, ap}
use Rattle.std.specs.List.{list_all}
use Rattle.base.specs.Manifest.{ManifestRows}
use Rattle.manifest.specs.Valid.{is_region_row, grants_owner, are_distinct, executes_normal}
use Rattle.manifest.proofs.Legal.{regions_are_legal, region_limits}
use Rattle.manifest.proofs.manifest.Manifest.new.Goals as goal

pub to_regions-requires : goal.to_regions-requires
to_regions-requires c =
    let same : c.draft.inside.regions.items ≡ c.args.draft.now.regions = ap (λ (m : ManifestRows). m.regions) c.draft.view_is in
    let limits : list_all is_region_row c.draft.inside.regions.items ≡ true = rw same (region_limits c.args.draft.now c.in_ok-check_limits.ensures) in
    let owners : list_all grants_owner c.draft.inside.regions.items ≡ true = rw c.deref.ensures.value at c.in_ok-check_owners.ensures in
    let once : list_all (λ r. are_distinct r.grants) c.draft.inside.regions.items ≡ true = rw c.deref-2.ensures.value at c.in_ok-check_grants.ensures in
    let executes : list_all executes_normal c.draft.inside.regions.items ≡ true = rw c.deref-3.ensures.value at c.in_ok-check_executable.ensures in
    rw c.deref-4.ensures.value (regions_are_legal c.draft.inside.regions.items limits owners once executes)
