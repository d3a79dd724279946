use Rattle.stage2.proofs.Editing.UpToGigabyte.{IsRowUpTo}
use Rattle.stage2.proofs.level1.edit_each_gigabyte.Given as goal

-- the gigabytes before this one are edited
abbrev pub invariant-loop-number : goal.invariant-loop-number
invariant-loop-number g l = record {
  up_to : IsRowUpTo l.fn.edit l.fn.runs (g.M.TableMem.state l.fn.memory) (g.M.TableMem.room l.fn.memory) l.number (g.M.TableMem.state l.memory) (g.M.TableMem.room l.memory);
}
