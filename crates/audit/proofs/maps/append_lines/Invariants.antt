use Rattle.std.proofs.Common.{length}
use Rattle.stage2.specs.Tables.{view_of}
use Rattle.audit.specs.Runs.{reached_runs}
use Rattle.audit.proofs.JoinedRuns.{IsMapping}
use Rattle.audit.proofs.maps.append_lines.Given as goal

abbrev pub invariant-loop-pages : goal.invariant-loop-pages
invariant-loop-pages g l = IsMapping l.initial.text.items l.text.items l.lines.count l.lines.last l.left (reached_runs (view_of l.tables l.fn.p))

abbrev pub decreases-loop-pages : goal.decreases-loop-pages
decreases-loop-pages g l = length l.left
