use Rattle.pool.proofs.Names.{rise, TurnRuns, ◌≡◌, ◌==◌, drop, not, true}
use Rattle.pool.proofs.Wrote.{Left}
use Rattle.pool.proofs.runs.write_each.Given as goal

-- with the words of the runs that are left it is done
abbrev pub invariant-loop-run : goal.invariant-loop-run
invariant-loop-run g l = record {
  left : Left l.with l.runs (drop l.run-index l.runs) (g.S.WordStore.words l.fn.store) (g.S.WordStore.words l.store) l.fn.log l.log;
  standing : g.S.WordStore.stands l.store ≡ g.S.WordStore.stands l.fn.store;
  turned : not (g.row.TURNED == 0) ≡ true → TurnRuns (g.S.WordStore.words l.store) l.with (drop l.run-index l.runs);
  up : rise 0 (drop l.run-index l.runs) ≡ true;
}
