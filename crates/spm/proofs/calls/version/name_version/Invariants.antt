use Rattle.std.proofs.Common.{◌≡◌, ◌++◌, take, drop}
use Rattle.base.specs.State.{with_partition}
use Rattle.rules.specs.Calls.Version.{naming}
use Rattle.spm.proofs.calls.version.name_version.Given as goal

abbrev pub invariant-loop-row : goal.invariant-loop-row
invariant-loop-row l = record {
  same : l.partitions ≡ l.initial.partitions;
  rest : take l.row-index l.partitions ++ with_partition l.p (naming l.word) (drop l.row-index l.partitions) ≡ with_partition l.p (naming l.word) l.partitions;
}
