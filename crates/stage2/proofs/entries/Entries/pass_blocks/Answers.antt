use Rattle.stage2.proofs.Names.{words_of, pages_at, next_first, ◌≡◌, ◌+◌, ◌*◌, ◌%◌, sym, ap, ◌∙◌, arith}
use Rattle.stage2.specs.declared.table_page.Level.TheVariants.{Second, Third}
use Rattle.stage2.proofs.Reading.Rows.{second-row, none-behind, stand-behind}
use Rattle.stage2.proofs.entries.Entries.pass_blocks.Goals as goal

pub returns-then-not-is_ended : goal.returns-then-not-is_ended
returns-then-not-is_ended g c = none-behind c.args.entry c.args.self.now c.first-first.ensures.in_range

pub returns : goal.returns
returns g c =
    let own = c.self.inside in
    let words = words_of (g.W.WordSource.words own.words) in
    let e = c.args.entry in
    let count = c.pass_row.result in
    let first = next_first Second own.second in
    let none = c.is_ended.ensures c.if-not-is_ended.false _ words Third c.self.invariant.at_third in
    let at : first ≡ e.first + pages_at Second = ap (λ l. next_first l own.second) (sym c.requires.level) ∙ c.is_behind.ensures c.if-not-is_behind.false ∙ ap (λ l. e.first + pages_at l) c.requires.level in
    let block : (c.word-word.result + 4096 * 512) % 4 ≡ 1 = omega (arith, c.word-word.ensures, c.requires.block) in
    stand-behind e Second first c.word-word.result count c.args.self.now _ c.requires.level at c.pass_row.ensures.range c.word-word.ensures
    (sym c.self.view_is ∙ second-row own.base own.pages words own.root own.second own.third first (c.word-word.result + 4096 * 512) count c.pass_row.new.self none block c.pass_row.ensures.entries)
