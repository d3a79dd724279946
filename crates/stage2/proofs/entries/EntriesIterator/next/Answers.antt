use Rattle.stage2.proofs.Names.{words_of, option_map_or, entry_of, Words, number_of, TableEntry, table_entries, table_in, left_in, nat_tests, common_steps, ◌≡◌, ℕ, List, [], length, sym, ap, ◌∙◌, arith}
use Rattle.stage2.specs.declared.table_page.Level.TheVariants.{Second, Third}
use Rattle.stage2.proofs.Reading.Trees.{third-next, second-next, root-next, none-next}
use Rattle.stage2.proofs.entries.EntriesIterator.next.Goals as goal

pub returns-in-Some-clause-steps : goal.returns-in-Some-clause-steps
returns-in-Some-clause-steps g c = grind (arith, common_steps, nat_tests, third-next)

pub returns-in-Some-clause-goes : goal.returns-in-Some-clause-goes
returns-in-Some-clause-goes g c = grind (arith, common_steps, nat_tests, returns-in-Some-clause-steps)

-- what the table has below that an entry points at
opened-at : (words : Words) (base pages first word level n : ℕ) (f : ℕ → List TableEntry) (below : List TableEntry) → level ≡ n → below ≡ option_map_or f (table_in base pages (entry_of level word)) [] → below ≡ option_map_or f (table_in base pages (entry_of n word)) []
opened-at words base pages first word level n f below at so = so ∙ ap (λ l. option_map_or f (table_in base pages (entry_of l word)) []) at

pub returns-in-Some-next-clause-steps : goal.returns-in-Some-next-clause-steps
returns-in-Some-next-clause-steps g c =
    let own = c.self.inside in
    let words = words_of (g.W.WordSource.words own.words) in
    let e = c.in-Some-next.entry in
    let level = ap number_of c.in-Some-next.ensures.at in
    let below = opened-at words own.base own.pages e.first e.word (number_of e.level) 2 (λ k. table_entries Third e.first (words k)) (left_in words c.below-self-inside.result) level c.below-self-inside.ensures.entries in
    sym c.self.view_is ∙ second-next own.base own.pages words own.root own.second own.third e c.next-2.new.self c.below-self-inside.result c.in_default.ensures.entries.0 c.in-Some-next.ensures.entries below

pub returns-in-Some-next-clause-goes : goal.returns-in-Some-next-clause-goes
returns-in-Some-next-clause-goes g c =
    record { on = λ _. (tt, tt, omega (arith, ap (λ xs. length xs) (returns-in-Some-next-clause-steps g c))); keeps = tt; rests = λ _. tt }

pub returns-clause-steps : goal.returns-clause-steps
returns-clause-steps g c =
    let own = c.self.inside in
    let words = words_of (g.W.WordSource.words own.words) in
    let e = c.in_ok-entry.entry in
    let level = ap number_of c.in_ok-entry.ensures.at in
    let none = c.in_default.ensures.entries in
    let empty = c.in_default-next.ensures.entries in
    let below = opened-at words own.base own.pages e.first e.word (number_of e.level) 1 (λ j. table_entries Second e.first (words j)) (left_in words c.below-self-inside-2.result) level c.below-self-inside-2.ensures.entries in
    sym c.self.view_is ∙ root-next own.base own.pages words own.root own.second own.third e c.next-3.new.self c.below-self-inside-2.result c.next.new.self none.0 empty.0 c.in_ok-entry.ensures.entries none.1 below

pub returns-clause-goes : goal.returns-clause-goes
returns-clause-goes g c =
    record { on = λ _. (tt, tt, omega (arith, ap (λ xs. length xs) (returns-clause-steps g c))); keeps = tt; rests = λ _. tt }

pub returns-in_err-entry-clause-steps : goal.returns-in_err-entry-clause-steps
returns-in_err-entry-clause-steps g c = grind (arith, common_steps, nat_tests, none-next)
