use Rattle.stage2.proofs.Names.{is_mixed, View, pages_of, answers_of, nat_tests, common_steps, eqb-true, ℕ, not, ◌&&◌, refl, ap, ◌∙◌, arith}
use Rattle.stage2.specs.inner.Clauses.{IsChunkPlanned}
use Rattle.stage2.proofs.Editing.ChunkByChunk.{bit, untouched}
use Rattle.stage2.proofs.Counting.Growth.{grows-nothing}
use Rattle.stage2.proofs.Counting.Operations.{chunk-same}
use Rattle.stage2.proofs.Runs.OwnRuns.{own-chunk, chunk-mixed}
use Rattle.stage2.proofs.plan.plan_at.Goals as goal

pub plan_in-requires-clause-turned : goal.plan_in-requires-clause-turned
plan_in-requires-clause-turned g c = grind (arith, common_steps, nat_tests, eqb-true, (own-chunk c.args.chunk c.args.runs.now c.in-Some.here.runs c.in-Some.ensures.some.2).covered)

pub returns-in-Some : goal.returns-in-Some
returns-in-Some g c =
    let h = c.in-Some.here in
    let so = c.in-Some.ensures.some in
    let runs = c.args.runs.now in
    let access = c.args.edit.now.access in
    let chunk = c.args.chunk in
    let before : ℕ → View = answers_of c.args.edit.now.layout.now (pages_of (g.M.TableMem.state c.args.memory.now).memory).words c.args.edit.now.row in
    let part = own-chunk chunk runs h.runs so.2 in
    let own : IsChunkPlanned before h.runs access chunk c.plan_in.result = rw (so.1, so.3) at c.plan_in.ensures in
    let operations = own.operations in
    let same = chunk-same runs h.runs access before before chunk part.covered part.count (λ i small. refl) part.touches in
    record {
      tables = own.tables ∙ ap bit (ap (λ b. b && not (is_mixed before chunk)) (chunk-mixed chunk runs h.runs access part.covered before));
      operations = omega (arith, operations, same);
      most = own.most;
    }

pub returns-in-None : goal.returns-in-None
returns-in-None g c = grind (arith, common_steps, nat_tests, grows-nothing, untouched, bit)
