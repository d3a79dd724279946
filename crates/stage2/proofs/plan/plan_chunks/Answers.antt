use Rattle.stage2.proofs.Names.{pages_of, covers_chunk, answers_of, next_page, entry_in, ap, ◌%◌, nat_tests, common_steps, ◌≡◌, ℕ, ◌+◌, ◌*◌, ◌<◌, ◌≤◌, true, refl, sym, subst, ◌∙◌, arith}
use Rattle.stage2.proofs.Counting.Growth.{filled-grows, filled-operations, second-page, read-at}
use Rattle.stage2.proofs.Counting.UpToPiece.{planned-start, planned-piece, planned-end, planned-filled, planned-one}
use Rattle.stage2.proofs.Runs.Between.{past-past}
use Rattle.stage2.proofs.Runs.Left.{left-covers}
use Rattle.stage2.proofs.plan.plan_chunks.Goals as goal

pub loop-piece-init : goal.loop-piece-init
loop-piece-init g c = record {
  planned = rw c.again-rest.ensures (planned-start c.new-plan.ensures);
}

pub plain_from-plain-requires-clause-page_in : goal.plain_from-plain-requires-clause-page_in
plain_from-plain-requires-clause-page_in g c = λ j is.
    let inside = (second-page c.requires.canonical c.in-Some.ensures.in_range c.args.edit.now.row c.args.edit.now.inside j (c.requires.table ∙ is)).0 in
    subst (λ n. j < n) c.requires.canonical.orderly.pages inside

pub loop-piece-preserved-then-piece-plain : goal.loop-piece-preserved-then-piece-plain
loop-piece-preserved-then-piece-plain g c =
    let so = planned-piece c.loop-piece.invariant.planned c.in-Some.ensures.some in
    let m = pages_of (g.M.TableMem.state c.args.memory.now).memory in
    let gigabyte = c.args.gigabyte in
    let runs = c.args.runs.now in
    let access = c.args.edit.now.access in
    let layout = c.args.edit.now.layout.now in
    let row = c.args.edit.now.row in
    let below = c.in-Some.ensures.in_range in
    let most = c.plain_from-plain.ensures.most c.if-piece-plain.true in
    let last = c.in-Some.ensures.some.most in
    let filled : (x : ℕ) → c.in-Some.piece.first ≤ x → x < c.plain_from-plain.result → covers_chunk (512 * gigabyte + x) runs ≡ true =
    λ x from lt. sym (so.left.fills (512 * gigabyte + x) (omega (arith, from))) ∙ c.in-Some.ensures.some.filled x from (omega (arith, lt, most)) in
    record {
      planned = planned-filled so c.if-piece-plain.true (omega (arith, most, last))
          (λ x from lt. filled-grows (answers_of layout m.words row) runs access (512 * gigabyte + x) (filled x from lt))
          (λ x from lt.
          let small : x < 512 = omega (arith, lt, most, last) in
          let index : (512 * gigabyte + x) % 512 ≡ x = omega (arith, small) in
          filled-operations (read-at c.requires.canonical c.args.edit.now.inside gigabyte x below small c.requires.table) runs access (ap (λ i. next_page (entry_in layout m.words c.args.second.now i)) index ∙ c.plain_from-plain.ensures.plain layout x from lt) (filled x from lt))
          refl;
    }

pub plan_at-more-requires : goal.plan_at-more-requires
plan_at-more-requires g c = grind (arith, common_steps, nat_tests, past-past, planned-piece c.loop-piece.invariant.planned c.in-Some.ensures.some, left-covers)

pub loop-piece-preserved : goal.loop-piece-preserved
loop-piece-preserved g c =
    let so = planned-piece c.loop-piece.invariant.planned c.in-Some.ensures.some in
    let here = c.chunk.ensures.same in
    record {
      planned = planned-one so c.in-Some.ensures.some.small refl (rw here at c.plan_at-more.ensures.tables) (rw here at c.plan_at-more.ensures.operations) c.plan_at-more.ensures.most;
    }

pub returns : goal.returns
returns g c = grind (arith, common_steps, nat_tests, planned-end c.loop-piece.invariant.planned (c.in_default.ensures.none refl))
