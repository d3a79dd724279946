use Rattle.stage2.proofs.Names.{TableEntry, ArePassed, nat_tests, common_steps, List, subst, arith}
use Rattle.stage2.proofs.Reading.Passing.{passed-more, next-pages}
use Rattle.stage2.proofs.alike.AlikeIterator.next.Goals as goal

pub returns-in-Leaf-clause-steps : goal.returns-in-Leaf-clause-steps
returns-in-Leaf-clause-steps g c =
    let passed = subst (λ (xs : List TableEntry). ArePassed c.args.self.now xs) c.in-Some.ensures.steps c.loop-entry.invariant in
    next-pages c.args.self.now c.next.new.self c.pass_row-more.new.self c.in-Some.entry c.in-Leaf.access c.pass_row-more.result c.of.result passed c.pass_row-more.ensures c.of.ensures.pages c.of.ensures.access c.of.ensures.word

pub loop-entry-preserved : goal.loop-entry-preserved
loop-entry-preserved g c =
    let passed = subst (λ (xs : List TableEntry). ArePassed c.args.self.now xs) c.in-Some.ensures.steps c.loop-entry.invariant in
    passed-more c.args.self.now c.next.new.self c.in-Some.entry (grind (arith, common_steps, nat_tests)) passed
