use Rattle.stage2.proofs.Names.{ArePassed, length}
use Rattle.stage2.proofs.alike.AlikeIterator.next.Given as goal

-- nothing is reached by the entries that came
abbrev pub invariant-loop-entry : goal.invariant-loop-entry
invariant-loop-entry g l = ArePassed l.fn.self l.self-inside.0

abbrev pub decreases-loop-entry : goal.decreases-loop-entry
decreases-loop-entry g l = length l.self-inside.0
