use Rattle.std.proofs.Common.{◌≡◌, drop}
use Rattle.std.specs.List.{list_all}
use Rattle.base.specs.Pages.{are_apart}
use Rattle.manifest.specs.Valid.{pool_pages}
use Rattle.manifest.proofs.draft.check_pool_apart.Given as goal

abbrev pub invariant-loop-region : goal.invariant-loop-region
invariant-loop-region l =
    list_all (λ r. are_apart (pool_pages l.draft) r.pages) (drop l.region-index l.draft.regions)
    ≡ list_all (λ r. are_apart (pool_pages l.draft) r.pages) l.draft.regions
