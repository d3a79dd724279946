use Rattle.stage2.proofs.Names.{edited, IsOutcome, tells, eqb, sym, ap, subst, ◌∙◌}
use Rattle.stage2.proofs.Counting.Outcomes.{told-filled, told-block}
use Rattle.stage2.proofs.outcome.is_alike_in_block.Goals as goal

pub returns-then-edit-eq-CHUNK_PAGES : goal.returns-then-edit-eq-CHUNK_PAGES
returns-then-edit-eq-CHUNK_PAGES c = λ before same.
    let e = c.args.edit.now in
    subst (λ b. IsOutcome e.chunk (edited e.runs e.access before) (tells b e.access)) (sym (ap (λ p. eqb p 512) c.if-edit-eq-CHUNK_PAGES.true)) (told-filled e before c.if-edit-eq-CHUNK_PAGES.true)

pub returns-else-edit-eq-CHUNK_PAGES : goal.returns-else-edit-eq-CHUNK_PAGES
returns-else-edit-eq-CHUNK_PAGES c = λ before same.
    told-block c.args.edit.now before c.block_of.result c.is_alike.result c.is_alike.ensures (λ n at. same n at ∙ sym c.block_of.ensures) c.if-edit-eq-CHUNK_PAGES.false
