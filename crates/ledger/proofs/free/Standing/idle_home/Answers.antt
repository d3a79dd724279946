use Rattle.std.proofs.Common.{sym, ◌∙◌}
use Rattle.ledger.proofs.Segments.{idle_home-as}
use Rattle.ledger.proofs.free.Standing.idle_home.Goals as goal

pub returns-then-is_idle_for : goal.returns-then-is_idle_for
returns-then-is_idle_for c = λ m ds live n alike. idle_home-as m ds live c.args.self.now c.args.p n _ alike (sym c.is_idle_for.ensures ∙ c.if-is_idle_for.true)

pub returns-else-is_idle_for : goal.returns-else-is_idle_for
returns-else-is_idle_for c = λ m ds live n alike. idle_home-as m ds live c.args.self.now c.args.p n _ alike (sym c.is_idle_for.ensures ∙ c.if-is_idle_for.false)
