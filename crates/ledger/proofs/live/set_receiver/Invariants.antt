use Rattle.std.proofs.Common.{◌≡◌, ◌++◌, take, drop}
use Rattle.ledger.specs.Changes.{with_retrieved}
use Rattle.ledger.proofs.live.set_receiver.Given as goal

abbrev pub invariant-loop-receiver : goal.invariant-loop-receiver
invariant-loop-receiver l = record {
  same : l.receivers ≡ l.initial.receivers;
  rest : take l.receiver-index l.receivers ++ with_retrieved l.p l.retrieved (drop l.receiver-index l.receivers) ≡ with_retrieved l.p l.retrieved l.receivers;
}
