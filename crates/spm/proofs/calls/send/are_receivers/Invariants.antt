use Rattle.std.proofs.Common.{◌≡◌, drop}
use Rattle.std.specs.List.{list_all}
use Rattle.rules.specs.Calls.Send as sending
use Rattle.spm.proofs.calls.send.are_receivers.Given as goal

abbrev pub invariant-loop-endpoint : goal.invariant-loop-endpoint
invariant-loop-endpoint l = list_all (sending.is_receiver l.state l.p) (drop l.endpoint-index l.endpoints) ≡ list_all (sending.is_receiver l.state l.p) l.endpoints
