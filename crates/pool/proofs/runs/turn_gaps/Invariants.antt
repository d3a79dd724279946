use Rattle.pool.proofs.Names.{gaps_from, gaps_of, TurnRuns, ◌≡◌, drop, ◌≤◌}
use Rattle.pool.proofs.Wrote.{Left}
use Rattle.pool.proofs.runs.turn_gaps.Given as goal

-- with the words of the gaps that are left it is done
abbrev pub invariant-loop-run : goal.invariant-loop-run
invariant-loop-run g l = record {
  left : Left l.with (gaps_of l.with.start l.runs) (gaps_from l.with.start l.first (drop l.run-index l.runs)) (g.S.WordStore.words l.fn.store) (g.S.WordStore.words l.store) l.fn.log l.log;
  standing : g.S.WordStore.stands l.store ≡ g.S.WordStore.stands l.fn.store;
  turned : TurnRuns (g.S.WordStore.words l.store) l.with (gaps_from l.with.start l.first (drop l.run-index l.runs));
  most : l.first ≤ 512;
}
