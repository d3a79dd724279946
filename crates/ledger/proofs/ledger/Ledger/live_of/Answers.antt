use Rattle.std.proofs.Common.{sym, subst}
use Rattle.std.specs.List.{AllByRecursion}
use Rattle.base.specs.Transactions.{AreAscending}
use Rattle.ledger.specs.Ledger.{NamesItsSender}
use Rattle.ledger.proofs.Transactions.{ascending}
use Rattle.ledger.proofs.ledger.Ledger.live_of.Goals as goal

pub live_of-requires-clause-ascending : goal.live_of-requires-clause-ascending
live_of-requires-clause-ascending c = subst AreAscending (sym c.deref.ensures.value) (ascending c.self.inside.live.items c.self.invariant.separate)

pub live_of-requires-clause-named : goal.live_of-requires-clause-named
live_of-requires-clause-named c = subst (AllByRecursion NamesItsSender) (sym c.deref.ensures.value) c.self.invariant.named
