use Rattle.stage2.proofs.Names.{pages_of, edited, answers_of, sum_below, gigabyte_operations, gigabyte_growth, ◌≡◌, ◌*◌, ◌≤◌}
use Rattle.stage2.proofs.plan.plan_row.Given as goal

abbrev pub invariant-loop-number : goal.invariant-loop-number
invariant-loop-number g l = record {
  tables : l.plan.tables ≡ sum_below (gigabyte_growth (answers_of l.fn.edit.layout.now (pages_of (g.M.TableMem.state l.fn.memory).memory).words l.fn.edit.row) (edited l.fn.runs l.fn.edit.access (answers_of l.fn.edit.layout.now (pages_of (g.M.TableMem.state l.fn.memory).memory).words l.fn.edit.row))) l.number;
  operations : sum_below (gigabyte_operations l.fn.runs l.fn.edit.access (answers_of l.fn.edit.layout.now (pages_of (g.M.TableMem.state l.fn.memory).memory).words l.fn.edit.row)) l.number ≤ l.plan.operations;
  few : l.plan.tables ≤ 513 * l.number;
  most : l.plan.operations ≤ 525826 * l.number;
}
