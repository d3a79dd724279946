use Rattle.stage2.proofs.Names.{edited, sum_below, view_in, gigabyte_growth, ◌*◌, ◌≤◌}
use Rattle.stage2.proofs.bound.most_tables.Given as goal

-- what the gigabytes before this one take is counted
abbrev pub invariant-loop-number : goal.invariant-loop-number
invariant-loop-number g l = let before = view_in l.fn.edit.layout.now l.fn.edit.row (g.M.TableMem.state l.fn.memory) in record {
  most : sum_below (gigabyte_growth before (edited l.fn.runs l.fn.edit.access before)) l.number ≤ l.most;
  few : l.most ≤ 513 * l.number;
}
