use Rattle.stage2.proofs.Names.{View, Pool, ChunkEdit, IsOutcome, IsSpelled, read_before, read_after, tells, words_left, pages_in, reached_in, table_operations, Next, nat_tests, common_steps, ◌≡◌, ◌⊎◌, ℕ, ◌+◌, ◌*◌, false, cond, is_some, subst, arith}
use Rattle.stage2.proofs.Counting.EditPlans.{edit-planned, either-most}
use Rattle.stage2.proofs.Counting.Operations.{kept, dropped, table-either, table-words}
use Rattle.stage2.proofs.Counting.Outcomes.{one, stray-mixed}
use Rattle.stage2.proofs.plan.plan_table.Goals as goal

-- what a table loses, by the pages that are reached
gone-words : (e : ChunkEdit) (k gone : ℕ) (pool : Pool) → IsSpelled e k pool → gone ≡ words_left k e pool → gone ≡ cond (is_some e.access) (reached_in (read_before e (Next k) pool) e.chunk) (pages_in e.runs e.chunk)
gone-words e k gone pool spelled is = grind (arith, common_steps, nat_tests, table-words)

-- where no word is looked at
pub returns-then-not-looks : goal.returns-then-not-looks
returns-then-not-looks g c =
    let e = c.args.edit.now in
    let pool = g.M.TableMem.state c.args.memory.now in
    let view : ℕ → View = read_before e (Next c.args.third) pool in
    let gone = gone-words e c.args.third c.operations_gone-gone.result pool c.requires.table.spelled c.operations_gone-gone.ensures.same in
    let page = one e in
    let either = table-either e.runs e.access view e.chunk (512 * e.chunk + page.0) c.requires.mixed (omega (arith, page.1)) page.2 in
    let most = either-most (table_operations e.runs e.access view e.chunk) c.operations_kept-kept.result c.operations_gone-gone.result c.max-most.result (rw (c.operations_kept-kept.ensures.same, gone) either) c.max-most.ensures in
    edit-planned false c.max-most.result c.new-then-not-looks.ensures most (λ yes. absurd (cc)) (omega (arith, c.max-most.ensures, c.operations_kept-kept.ensures.most, c.operations_gone-gone.ensures.most))

pub returns-then-most-min-le-SURPLUS : goal.returns-then-most-min-le-SURPLUS
returns-then-most-min-le-SURPLUS g c =
    let e = c.args.edit.now in
    let pool = g.M.TableMem.state c.args.memory.now in
    let view : ℕ → View = read_before e (Next c.args.third) pool in
    let gone = gone-words e c.args.third c.operations_gone-gone.result pool c.requires.table.spelled c.operations_gone-gone.ensures.same in
    let page = one e in
    let t = table_operations e.runs e.access view e.chunk in
    let either : (t ≡ c.operations_kept-kept.result) ⊎ (t ≡ c.operations_gone-gone.result) =
    rw (c.operations_kept-kept.ensures.same, gone) (table-either e.runs e.access view e.chunk (512 * e.chunk + page.0) c.requires.mixed (omega (arith, page.1)) page.2) in
    edit-planned false c.max-most.result c.new-then-most-min-le-SURPLUS.ensures
    (either-most t c.operations_kept-kept.result c.operations_gone-gone.result c.max-most.result either c.max-most.ensures)
    (λ yes. (grind (arith, common_steps, nat_tests)))
    (omega (arith, c.max-most.ensures, c.operations_kept-kept.ensures.most, c.operations_gone-gone.ensures.most))

-- a table that goes
pub returns-then-is_alike_in_table : goal.returns-then-is_alike_in_table
returns-then-is_alike_in_table g c =
    let e = c.args.edit.now in
    let pool = g.M.TableMem.state c.args.memory.now in
    let gone = gone-words e c.args.third c.operations_gone-gone.result pool c.requires.table.spelled c.operations_gone-gone.ensures.same in
    let outcome = subst (λ b. IsOutcome e.chunk (read_after e (Next c.args.third) pool) (tells b e.access)) c.if-is_alike_in_table.true c.is_alike_in_table.ensures in
    let all = dropped e.runs e.access (read_before e (Next c.args.third) pool) e.chunk e.access c.requires.mixed outcome in
    edit-planned false c.operations_gone-gone.result c.new-then-is_alike_in_table.ensures (omega (arith, all, gone)) (λ yes. omega (arith, all, gone)) (omega (arith, c.operations_gone-gone.ensures.most))

-- one that stays, as its count tells
pub returns-then-is_told_mixed : goal.returns-then-is_told_mixed
returns-then-is_told_mixed g c = grind (arith, common_steps, nat_tests, kept, stray-mixed, edit-planned)
