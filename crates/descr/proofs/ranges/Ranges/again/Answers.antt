use Rattle.descr.proofs.Turns.{length-ranges_at, some-ranges_at}
use Rattle.descr.proofs.ranges.Ranges.again.Goals as goal

pub returns-clause-few : goal.returns-clause-few
returns-clause-few c = rw (length-ranges_at c.self.inside.count c.self.inside.bytes.now c.self.inside.at) c.self.invariant.few

pub returns-clause-pages : goal.returns-clause-pages
returns-clause-pages c = some-ranges_at c.self.inside.count c.self.inside.bytes.now c.self.inside.at c.self.invariant.valid
