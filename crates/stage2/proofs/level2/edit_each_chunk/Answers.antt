use Rattle.stage2.proofs.Names.{touches_chunk, chunk_runs, nat_tests, common_steps, ◌≡◌, false, refl, ap, subst, ◌∙◌, arith}
use Rattle.stage2.proofs.Editing.UpToChunk.{at-start, at-piece, at-untouched, at-end, own-here, here-can, here-next, table-inside, table-taken, blocks-room, blocks-next}
use Rattle.stage2.proofs.Runs.Between.{past-past}
use Rattle.stage2.proofs.Tree.Rows.{has-row}
use Rattle.stage2.proofs.level2.edit_each_chunk.Goals as goal
use Rattle.stage2.proofs.level2.edit_each_chunk.Goals.{in-Some-new, in_default-new}

pub loop-piece-init : goal.loop-piece-init
loop-piece-init g c = record { up_to = λ below. rw c.again-rest.ensures (at-start c.requires below) }

pub plain_until-plain-requires-clause-page_in : goal.plain_until-plain-requires-clause-page_in
plain_until-plain-requires-clause-page_in g c =
    let below = c.in-Some.ensures.in_range in
    table-inside c.requires below (at-piece c.requires below (c.loop-piece.invariant.up_to below) c.in-Some.ensures.some) c.in-Some.ensures.some.small

pub set_blocks-requires : goal.set_blocks-requires
set_blocks-requires g c =
    let below = c.in-Some.ensures.in_range in
    let so = at-piece c.requires below (c.loop-piece.invariant.up_to below) c.in-Some.ensures.some in
    let most = c.plain_until-plain.ensures.most c.if-piece-plain.true in
    record {
      page_in = table-inside c.requires below so c.in-Some.ensures.some.small;
      taken = table-taken c.requires below so c.in-Some.ensures.some.small;
      some = c.if-piece-plain.true;
      most = omega (arith, most, c.in-Some.ensures.some.most);
      partition = grind (arith, common_steps, nat_tests, at-piece, has-row);
      room = blocks-room c.requires below so c.if-piece-plain.true (omega (arith, most, c.in-Some.ensures.some.most)) (λ x from to. c.in-Some.ensures.some.filled x from (omega (arith, to, most)));
    }

pub loop-piece-preserved-then-piece-plain : goal.loop-piece-preserved-then-piece-plain
loop-piece-preserved-then-piece-plain g c =
    let below = c.in-Some.ensures.in_range in
    let so = at-piece c.requires below (c.loop-piece.invariant.up_to below) c.in-Some.ensures.some in
    let most = c.plain_until-plain.ensures.most c.if-piece-plain.true in
    record {
      up_to = λ _. blocks-next c.requires below so c.if-piece-plain.true (omega (arith, most, c.in-Some.ensures.some.most)) (λ x from to. c.in-Some.ensures.some.filled x from (omega (arith, to, most)))
          (g.met.M.TableMem.whole c.loop-piece.memory) (λ x from to. c.plain_until-plain.ensures.plain c.args.edit.now.layout.now x from to) c.set_blocks.ensures.replaces c.set_blocks.ensures.room;
    }

pub new-requires : goal.new-requires
new-requires g c = grind (arith, common_steps, nat_tests, past-past)

pub edit_one_of_many-requires : goal.edit_one_of_many-requires
edit_one_of_many-requires g c =
    let below = c.in-Some.ensures.in_range in
    let so = at-piece c.requires below (c.loop-piece.invariant.up_to below) c.in-Some.ensures.some in
    let here = c.in-Some-new.ensures.some in
    let own = own-here c.requires below so (here.2 ∙ ap (λ k. chunk_runs k c.in-Some.piece.runs) c.chunk-chunk.ensures.same) in
    here-can c.requires below so c.in-Some.ensures.some.small c.in-Some-new.here here.0 (here.1 ∙ c.chunk-chunk.ensures.same) own here.3 here.4

pub loop-piece-preserved : goal.loop-piece-preserved
loop-piece-preserved g c =
    let below = c.in-Some.ensures.in_range in
    let so = at-piece c.requires below (c.loop-piece.invariant.up_to below) c.in-Some.ensures.some in
    elim c.match-new.branch [
      | in-Some-new w ↦
          let here = w.in-Some-new.ensures.some in
          let own = own-here c.requires below so (here.2 ∙ ap (λ k. chunk_runs k c.in-Some.piece.runs) c.chunk-chunk.ensures.same) in
          rw w.memory-is (record {
            up_to = λ _. here-next c.requires below so c.in-Some.ensures.some.small w.in-Some-new.here here.0 (here.1 ∙ c.chunk-chunk.ensures.same) own here.3 here.4 w.edit_one_of_many.ensures;
          })
      | in_default-new w ↦ rw w.memory-is (record {
        up_to = λ _. at-untouched c.requires below so c.in-Some.ensures.some.small (subst (λ x. touches_chunk x c.in-Some.piece.runs ≡ false) c.chunk-chunk.ensures.same (c.new.ensures.none w.in_default-new.is));
      })
    ]

pub returns : goal.returns
returns g c = let below = c.in_default.ensures.in_range in at-end c.requires below (c.loop-piece.invariant.up_to below) (c.in_default.ensures.none refl)
