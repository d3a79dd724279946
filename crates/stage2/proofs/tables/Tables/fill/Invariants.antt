use Rattle.stage2.proofs.Names.{in_range, IsFilling, KeepsOthers, ◌-◌}
use Rattle.stage2.proofs.tables.Tables.fill.Given as goal

-- the pages below the pending ones are mapped
abbrev pub invariant-loop-number : goal.invariant-loop-number
invariant-loop-number g l = record {
  filling : IsFilling l.fn.self.layout (in_range (g.V.Views.view l.views l.p)) l.p l.first l.number l.access l.self;
  others : KeepsOthers l.p l.fn.self l.self;
}

abbrev pub decreases-loop-number : goal.decreases-loop-number
decreases-loop-number g l = 134217728 - l.number
