use Rattle.stage2.proofs.Names.{words_of, answers_at, sym, ◌∙◌}
use Rattle.stage2.proofs.Counting.Operations.{plain-answer}
use Rattle.stage2.proofs.Editing.FourChunkEdits.{is-next}
use Rattle.stage2.proofs.outcome.becomes_alike.Goals as goal

pub is_alike_in_table-requires : goal.is_alike_in_table-requires
is_alike_in_table-requires g c = c.requires c.in-Some.third (is-next c.args.entry.now c.in-Some.third (sym c.table_of.ensures ∙ c.in-Some.is))

pub returns-in-None : goal.returns-in-None
returns-in-None g c =
    let e = c.args.edit.now in
    let words = words_of (g.M.TableMem.state c.args.memory.now).memory.words in
    c.is_alike_in_block.ensures (answers_at e.layout.now words c.args.entry.now) (λ n at. plain-answer e.layout.now words c.args.entry.now n (sym c.table_of.ensures ∙ c.in-None.is))
