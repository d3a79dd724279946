use Rattle.std.proofs.Common.{◌≡◌, drop}
use Rattle.std.specs.List.{list_all}
use Rattle.manifest.specs.Valid.{executes_normal}
use Rattle.manifest.proofs.draft.check_executable.Given as goal

abbrev pub invariant-loop-region : goal.invariant-loop-region
invariant-loop-region l = list_all executes_normal (drop l.region-index l.regions) ≡ list_all executes_normal l.regions
