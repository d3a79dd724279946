use Rattle.std.proofs.Common.{◌≡◌, map, take}
use Rattle.base.specs.Buffers as spec
use Rattle.mailbox.proofs.pairs.first_mailboxes.Given as goal

abbrev pub invariant-loop-row : goal.invariant-loop-row
invariant-loop-row l = l.mailboxes.items ≡ map spec.first_mailbox (take l.row-index l.partitions)
