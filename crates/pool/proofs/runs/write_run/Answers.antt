use Rattle.pool.proofs.Wrote.{wrote-run}
use Rattle.pool.proofs.runs.write_run.Goals as goal

pub returns-clause-wrote : goal.returns-clause-wrote
returns-clause-wrote g c = wrote-run c.args.with c.args.run c.in-Some.ensures.0 c.in-Some.ensures.1 c.write_indexes.ensures.wrote

pub returns-2-clause-wrote : goal.returns-2-clause-wrote
returns-2-clause-wrote g c = wrote-run c.args.with c.args.run c.indexes_of.ensures.first c.indexes_of.ensures.end c.write_apart.ensures.wrote
