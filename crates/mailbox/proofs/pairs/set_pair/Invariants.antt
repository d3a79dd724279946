use Rattle.std.proofs.Common.{◌≡◌, ◌++◌, take, drop}
use Rattle.base.specs.Buffers.{with_pair}
use Rattle.mailbox.proofs.pairs.set_pair.Given as goal

abbrev pub invariant-loop-mailbox : goal.invariant-loop-mailbox
invariant-loop-mailbox l = record {
  same : l.mailboxes ≡ l.initial.mailboxes;
  rest : take l.mailbox-index l.mailboxes ++ with_pair l.p l.pair (drop l.mailbox-index l.mailboxes) ≡ with_pair l.p l.pair l.mailboxes;
}
