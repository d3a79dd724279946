use Rattle.std.proofs.Common.{◌≡◌, map, length}
use Rattle.stage2.specs.Reading.{shown}
use Rattle.audit.proofs.audited.has_same_entries.Given as goal

-- the entries are the same where those that are left are
abbrev pub invariant-loop-entry : goal.invariant-loop-entry
invariant-loop-entry g l = record {
  to : map shown l.initial.ours ≡ map shown l.initial.theirs → map shown l.ours ≡ map shown l.theirs;
  from : map shown l.ours ≡ map shown l.theirs → map shown l.initial.ours ≡ map shown l.initial.theirs;
}

abbrev pub decreases-loop-entry : goal.decreases-loop-entry
decreases-loop-entry g l = length l.ours
