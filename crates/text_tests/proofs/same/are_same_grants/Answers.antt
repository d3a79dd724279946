use Rattle.std.proofs.Common.{rules, tests}
use Rattle.std.proofs.lemmas.Iterator.{YieldsList-from_slice, YieldsList-from_zip, same_from_all}
use Rattle.text_tests.proofs.same.are_same_grants.Goals as goal

pub returns-then-ours-theirs : goal.returns-then-ours-theirs
returns-then-ours-theirs c = same_from_all c.all.new.self _ _ _ _ c.all.ensures.ran (YieldsList-from_zip (YieldsList-from_slice c.args.ours.now cc) (YieldsList-from_slice c.args.theirs.now cc)) (search rules) (λ x q k. search (rules, tests)) (λ x q k. search (rules, tests))
