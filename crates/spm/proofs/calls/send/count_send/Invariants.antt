use Rattle.std.proofs.Common.{◌≡◌, ◌++◌, take, drop}
use Rattle.base.specs.State.{with_partition, sends_of}
use Rattle.rules.specs.Calls.Send.{counting}
use Rattle.spm.proofs.calls.send.count_send.Given as goal

abbrev pub invariant-loop-row : goal.invariant-loop-row
invariant-loop-row l = record {
  same : l.partitions ≡ l.initial.partitions;
  sends : sends_of (drop l.row-index l.partitions) l.p ≡ sends_of l.partitions l.p;
  rest : take l.row-index l.partitions ++ with_partition l.p counting (drop l.row-index l.partitions) ≡ with_partition l.p counting l.partitions;
}
