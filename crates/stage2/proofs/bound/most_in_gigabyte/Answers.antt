use Rattle.stage2.proofs.Names.{nat_tests, common_steps, cases_Bool, sym, ◌∙◌, arith, inl, inr}
use Rattle.stage2.proofs.Counting.Growth.{second-page}
use Rattle.stage2.proofs.Counting.Untabled.{growth-untabled}
use Rattle.stage2.proofs.bound.most_in_gigabyte.Goals as goal

pub count_untabled-chunks-requires-clause-page_in : goal.count_untabled-chunks-requires-clause-page_in
count_untabled-chunks-requires-clause-page_in g c = λ j e.
    let inside = (second-page c.requires.canonical c.chunk_span.ensures.in_range c.args.edit.now.row c.args.edit.now.inside j (sym c.second_at-second.ensures ∙ e)).0 in
    rw c.requires.canonical.orderly.pages at inside

pub returns : goal.returns
returns g c =
    let pool = g.M.TableMem.state c.args.memory.now in
    let most = growth-untabled c.args.edit.now.layout.now pool c.requires.canonical c.args.edit.now.row c.args.edit.now.inside c.args.gigabyte c.chunk_span.ensures.in_range c.second_at-second.result (sym c.second_at-second.ensures)
    c.args.runs.now c.args.edit.now.access c.chunk_span.result.first c.chunk_span.result.end c.chunk_span.ensures.within c.count_untabled-chunks.result c.count_untabled-chunks.ensures.counts in
    elim (cases_Bool c.is_none.result) [
      | inl t ↦ grind (arith, common_steps, nat_tests)
      | inr f ↦ grind (arith, common_steps, nat_tests)
    ]
