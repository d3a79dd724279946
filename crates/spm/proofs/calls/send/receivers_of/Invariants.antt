use Rattle.std.proofs.Common.{◌≡◌, map, take}
use Rattle.rules.specs.Calls.Send as rules
use Rattle.spm.proofs.calls.send.receivers_of.Given as goal

abbrev pub invariant-loop-endpoint : goal.invariant-loop-endpoint
invariant-loop-endpoint l = l.receivers.items ≡ map (rules.receiver l.kind l.home) (take l.endpoint-index l.endpoints)
