use Rattle.pool.proofs.RunWords.{runs-single}
use Rattle.pool.proofs.Wrote.{wrote-run}
use Rattle.pool.proofs.runs.write_runs.Goals as goal

pub returns-then-runs-eq1-clause-wrote : goal.returns-then-runs-eq1-clause-wrote
returns-then-runs-eq1-clause-wrote g c =
    rw (runs-single c.args.runs.now c.index-runs-0.result c.if-runs-eq1.true c.index-runs-0.is) (wrote-run c.args.with c.index-runs-0.result c.in-Some.ensures.0 c.in-Some.ensures.1 c.write_few.ensures.wrote)
