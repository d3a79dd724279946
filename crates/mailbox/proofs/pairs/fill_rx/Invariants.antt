use Rattle.std.proofs.Common.{◌≡◌, ◌++◌, true, take, drop}
use Rattle.std.specs.Option.{option_map}
use Rattle.base.specs.Buffers.{pair_of, with_pair, with_rx, holding}
use Rattle.mailbox.proofs.pairs.fill_rx.Given as goal

abbrev pub invariant-loop-mailbox : goal.invariant-loop-mailbox
invariant-loop-mailbox l = record {
  same : l.mailboxes ≡ l.initial.mailboxes;
  mine : pair_of (drop l.mailbox-index l.mailboxes) l.p ≡ pair_of l.mailboxes l.p;
  rest : take l.mailbox-index l.mailboxes ++ with_pair l.p (option_map (holding true) (pair_of l.mailboxes l.p)) (drop l.mailbox-index l.mailboxes) ≡ with_rx l.p true l.mailboxes;
}
