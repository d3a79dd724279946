use Rattle.std.proofs.Common.{sym, subst}
use Rattle.base.specs.Transactions.{AreAscending}
use Rattle.ledger.proofs.Transactions.{ascending}
use Rattle.ledger.proofs.ledger.Ledger.find.Goals as goal

pub find-requires : goal.find-requires
find-requires c = subst AreAscending (sym c.deref.ensures.value) (ascending c.self.inside.live.items c.self.invariant.separate)
