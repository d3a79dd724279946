use Rattle.stage2.proofs.Names.{nat_tests, common_steps, arith}
use Rattle.stage2.proofs.Reading.Rows.{third-row, none-behind, stand-behind}
use Rattle.stage2.proofs.entries.Entries.pass_pages.Goals as goal

pub returns-then-not-is_behind : goal.returns-then-not-is_behind
returns-then-not-is_behind g c = none-behind c.args.entry c.args.self.now c.first-first.ensures.in_range

pub returns : goal.returns
returns g c = grind (arith, common_steps, nat_tests, stand-behind, third-row)
