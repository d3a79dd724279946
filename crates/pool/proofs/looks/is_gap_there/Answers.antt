use Rattle.std.proofs.Common.{◌≡◌, ◌+◌, ◌-◌, ◌∙◌, arith}
use Rattle.pool.proofs.looks.is_gap_there.Goals as goal

pub returns-clause-yes : goal.returns-clause-yes
returns-clause-yes g c = λ e i from lt.
    let there = rw c.range.ensures at (c.are_there.ensures.yes e) in
    let same : c.args.first + (i - c.args.first) ≡ i = omega (arith, from) in
    rw (← same) (there (i - c.args.first) (omega (arith, from, lt)) ∙ omega arith)
