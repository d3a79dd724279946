use Rattle.std.proofs.Common.{◌≡◌, ◌+◌, ◌≤◌, true, [], take, reverse}
use Rattle.pool.specs.Pool.{all_lie_in}
use Rattle.stage2.specs.Tables.{TablesView, IsCallInStep}
use Rattle.spm.specs.Clearing.{AreUnreached}
use Rattle.spm.proofs.commit.clear_runs.Given as goal

-- the runs before this one are cleared
abbrev pub invariant-loop-run : goal.invariant-loop-run
invariant-loop-run g l = record {
  layout : l.tables.layout ≡ l.fn.tables.layout;
  memory : l.tables.pool.memory ≡ l.fn.tables.pool.memory;
  room : l.fn.tables.room ≤ l.tables.room + l.run-index;
  listed : all_lie_in l.fn.tables.pool ≡ true → all_lie_in l.tables.pool ≡ true;
  in_step : AreUnreached l.edit l.fn.tables → (entry : TablesView) → entry.layout ≡ l.fn.tables.layout → IsCallInStep entry l.edit.who l.edit.runs l.edit.to [] l.fn.tables → IsCallInStep entry l.edit.who l.edit.runs l.edit.to (reverse (take l.run-index l.edit.runs)) l.tables;
}
