use Rattle.stage2.proofs.Names.{View, edited, reached_in, nat_tests, common_steps, is_some, sym, ap, ap₂, ◌∙◌, arith}
use Rattle.stage2.proofs.Counting.Operations.{new-unmapped, new-all}
use Rattle.stage2.proofs.plan.words_of_new.Goals as goal
use Rattle.stage2.proofs.Counting.Pieces.{pages_among-none}

pub returns-in-None-None-clause-same : goal.returns-in-None-None-clause-same
returns-in-None-None-clause-same c = λ runs k pages.
    sym (ap₂ (λ (a b : View). reached_in (edited runs a (λ n. b)) k) c.in-None-None.is-1 c.in-None-None.is-0 ∙ (grind (arith, common_steps, nat_tests, pages_among-none)))

pub returns-in-Some-None-clause-same : goal.returns-in-Some-None-clause-same
returns-in-Some-None-clause-same c = λ runs k pages.
    omega (arith, new-unmapped runs c.args.access.now c.args.before.now k c.in-Some-None.is-1 (ap (λ a. is_some a) c.in-Some-None.is-0), pages)

pub returns-in-Some-Some-clause-same : goal.returns-in-Some-Some-clause-same
returns-in-Some-Some-clause-same c = λ runs k pages.
    sym (new-all runs c.args.access.now c.args.before.now k (ap (λ a. is_some a) c.in-Some-Some.is-1) (ap (λ a. is_some a) c.in-Some-Some.is-0))
