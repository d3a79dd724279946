use Rattle.std.proofs.Math.Bool.{and-true}
use Rattle.stage2.proofs.Names.{is_mixed, words_of, read_before, read_after, Bool, is_some, not, ◌&&◌, refl, sym, ap, ◌∙◌}
use Rattle.stage2.proofs.Counting.Operations.{plain-answer}
use Rattle.stage2.proofs.Editing.ChunkByChunk.{bit}
use Rattle.stage2.proofs.Editing.FourChunkEdits.{is-next}
use Rattle.stage2.proofs.plan.plan_chunk.Goals as goal

pub plan_table-requires-clause-table : goal.plan_table-requires-clause-table
plan_table-requires-clause-table g c = c.requires.table c.in-Some.third (is-next c.args.entry.now c.in-Some.third (sym c.table_of.ensures ∙ c.in-Some.is))

pub returns-in-None : goal.returns-in-None
returns-in-None g c =
    let e = c.args.edit.now in
    let pool = g.M.TableMem.state c.args.memory.now in
    let entry = c.args.entry.now in
    let none = sym c.table_of.ensures ∙ c.in-None.is in
    let so = c.plan_block.ensures (read_before e entry pool) (λ n at. plain-answer e.layout.now (words_of pool.memory.words) entry n none) in
    let grows : Bool = is_mixed (read_after e entry pool) e.chunk in
    record {
      tables = so.tables ∙ ap bit (sym (ap (λ o. grows && not (is_some o)) none ∙ and-true grows));
      operations = so.operations;
      close = λ yes. so.close refl;
      most = so.most;
    }
