use Rattle.pool.proofs.Names.{gaps_of}
use Rattle.pool.proofs.Written.{runs-stay, runs-state}
use Rattle.pool.proofs.table_pool.TablePoolTableMem.set_gaps.Goals as goal

pub invariant_of-self : goal.invariant_of-self
invariant_of-self g c =
    runs-stay c.args.self.now c.args.words (gaps_of c.args.words.start c.args.runs.now) c.requires.page_in (rw (c.take-log.ensures, c.list.ensures.same) at c.turn_gaps-operations.ensures.wrote) c.turn_gaps-operations.ensures.standing c.requires.taken

pub returns-clause-state : goal.returns-clause-state
returns-clause-state g c =
    runs-state c.args.self.now c.args.words (gaps_of c.args.words.start c.args.runs.now) c.requires.page_in (rw (c.take-log.ensures, c.list.ensures.same) at c.turn_gaps-operations.ensures.wrote)
