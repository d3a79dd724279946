use Rattle.stage2.proofs.Names.{nat_tests, common_steps, number_of, arith}
use Rattle.stage2.proofs.Reading.Rows.{in-row-behind, in-row-alone, leaf-small, leaf-block}
use Rattle.stage2.proofs.entries.Entries.pass_row.Goals as goal
use Rattle.words.proofs.RoundTrip.{word-leaf, odd-leaf}

pub pass_pages-requires-clause-odd : goal.pass_pages-requires-clause-odd
pass_pages-requires-clause-odd g c = grind (arith, common_steps, nat_tests, word-leaf (number_of c.args.entry.level) c.args.entry.word c.args.page c.args.access c.requires, odd-leaf)

pub pass_pages-requires-clause-small : goal.pass_pages-requires-clause-small
pass_pages-requires-clause-small g c = leaf-small c.args.entry.level c.args.entry.word c.args.page c.args.access c.requires

pub pass_blocks-requires-clause-block : goal.pass_blocks-requires-clause-block
pass_blocks-requires-clause-block g c = grind (arith, common_steps, nat_tests, leaf-block)

pub pass_blocks-requires-clause-small : goal.pass_blocks-requires-clause-small
pass_blocks-requires-clause-small g c = leaf-small c.args.entry.level c.args.entry.word c.args.page c.args.access c.requires

pub returns-then-ne : goal.returns-then-ne
returns-then-ne g c = in-row-alone c.args.entry c.args.page c.args.access c.args.self.now c.requires c.first.ensures.in_range

pub returns-in-Third : goal.returns-in-Third
returns-in-Third g c = in-row-behind c.args.entry c.args.page c.pass_pages.result c.first.result c.args.access c.ne.result c.args.self.now _ c.requires c.first.ensures.same c.ne.ensures c.if-ne.false c.pass_pages.ensures

pub returns-in-Second : goal.returns-in-Second
returns-in-Second g c = in-row-behind c.args.entry c.args.page c.pass_blocks.result c.first.result c.args.access c.ne.result c.args.self.now _ c.requires c.first.ensures.same c.ne.ensures c.if-ne.false c.pass_blocks.ensures

pub returns-in-First : goal.returns-in-First
returns-in-First g c = in-row-alone c.args.entry c.args.page c.args.access c.args.self.now c.requires c.first.ensures.in_range
