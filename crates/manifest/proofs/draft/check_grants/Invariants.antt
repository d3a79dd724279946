use Rattle.std.proofs.Common.{◌≡◌, drop}
use Rattle.std.specs.List.{list_all}
use Rattle.manifest.specs.Valid.{are_distinct}
use Rattle.manifest.proofs.draft.check_grants.Given as goal

abbrev pub invariant-loop-region : goal.invariant-loop-region
invariant-loop-region l = list_all (λ r. are_distinct r.grants) (drop l.region-index l.regions) ≡ list_all (λ r. are_distinct r.grants) l.regions
