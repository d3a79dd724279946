use Rattle.stage2.proofs.Names.{option_map_or, words_of, TableEntry, table_entries, List, [], ℕ, Option, sym, ap, ◌∙◌}
use Rattle.stage2.proofs.entries.opened.Goals as goal

pub returns-in-None-clause-entries : goal.returns-in-None-clause-entries
returns-in-None-clause-entries g c =
    let words = words_of (g.W.WordSource.words c.args.words.now) in
    let tables : Option ℕ → List TableEntry = λ o. option_map_or (λ k. table_entries c.args.level c.args.first (words k)) o [] in
    (c.ended.ensures (g.W.WordSource.pages c.args.words.now) words).1 ∙ ap tables (sym c.in-None.is)

pub returns-in-None-clause-is : goal.returns-in-None-clause-is
returns-in-None-clause-is g c =
    (c.ended.ensures (g.W.WordSource.pages c.args.words.now) (words_of (g.W.WordSource.words c.args.words.now))).0
