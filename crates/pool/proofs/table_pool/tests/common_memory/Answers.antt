use Rattle.pool.proofs.table_pool.tests.common_memory.Goals as goal

pub returns : goal.returns
returns g c = rw c.in_ok-manifest.ensures at c.make.ensures
