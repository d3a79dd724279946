use Rattle.pool.proofs.Written.{runs-stay, runs-state}
use Rattle.pool.proofs.table_pool.TablePoolTableMem.turn_runs.Goals as goal

pub invariant_of-self : goal.invariant_of-self
invariant_of-self g c = runs-stay c.args.self.now c.args.words c.args.runs.now c.requires.page_in (rw c.list.ensures.same at c.write_runs-count.ensures.wrote) c.write_runs-count.ensures.standing c.requires.taken

pub returns-clause-state : goal.returns-clause-state
returns-clause-state g c = runs-state c.args.self.now c.args.words c.args.runs.now c.requires.page_in (rw c.list.ensures.same at c.write_runs-count.ensures.wrote)
