use Rattle.std.proofs.Common.{◌-◌}
use Rattle.audit.specs.Runs.{ownership}
use Rattle.audit.proofs.OwnedRuns.{IsOwning}
use Rattle.audit.proofs.owners.append_lines.Given as goal

abbrev pub invariant-loop-number : goal.invariant-loop-number
invariant-loop-number l = IsOwning (ownership l.ledger.manifest l.ledger.donations) l.initial.text.items l.text.items l.lines.count l.lines.last l.number

abbrev pub decreases-loop-number : goal.decreases-loop-number
decreases-loop-number l = 134217728 - l.number
