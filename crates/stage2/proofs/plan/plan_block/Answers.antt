use Rattle.stage2.proofs.Names.{block_answer, nat_tests, common_steps, arith}
use Rattle.stage2.proofs.Counting.EditPlans.{edit-planned}
use Rattle.stage2.proofs.Counting.Needs.{same-unmixed}
use Rattle.stage2.proofs.Counting.Operations.{hung, plain, reached-as}
use Rattle.stage2.proofs.plan.plan_block.Goals as goal

pub returns-then-is_alike_in_block : goal.returns-then-is_alike_in_block
returns-then-is_alike_in_block c = λ before same.
    grind (arith, common_steps, nat_tests, same-unmixed before c.args.edit.now.chunk (block_answer c.args.entry.now) same, c.is_alike_in_block.ensures before same, plain, edit-planned)

-- a table that is hung gets words for those that are reached then
pub returns : goal.returns
returns c = λ before same.
    let e = c.args.edit.now in
    grind (arith, common_steps, nat_tests, same-unmixed before e.chunk (block_answer c.args.entry.now) same, c.is_alike_in_block.ensures before same, hung, c.words_of_new-words.ensures.same e.runs e.chunk e.pages, reached-as, edit-planned)
