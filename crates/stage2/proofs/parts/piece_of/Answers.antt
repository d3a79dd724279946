use Rattle.stage2.proofs.Counting.Pieces.{part-pages, part-within, no-part-pages}
use Rattle.stage2.proofs.parts.piece_of.Goals as goal
use Rattle.stage2.proofs.Names.{nat_tests, common_steps, sym, ◌∙◌, arith}

pub returns-in-Some-clause-pages : goal.returns-in-Some-clause-pages
returns-in-Some-clause-pages c = c.count.ensures.same ∙ sym (part-pages c.args.chunk c.args.run c.in-Some.part (sym c.part_in.ensures ∙ c.in-Some.is))

pub returns-in-Some-clause-most : goal.returns-in-Some-clause-most
returns-in-Some-clause-most c = grind (arith, common_steps, nat_tests, part-within)

pub returns-in-None-clause-pages : goal.returns-in-None-clause-pages
returns-in-None-clause-pages c = sym (no-part-pages c.args.chunk c.args.run (sym c.part_in.ensures ∙ c.in-None.is))
