use Rattle.stage2.proofs.Names.{nat_tests, words_of, nonzero_in, common_steps, eqb-true, ap, sym, ◌∙◌, arith}
use Rattle.pool.proofs.Nonzero.{nonzero-zeros, nonzero-word}
use Rattle.stage2.proofs.memory.is_empty.Goals as goal

pub returns-clause-yes : goal.returns-clause-yes
returns-clause-yes g c = λ is i lt.
    let words = words_of (g.M.TableMem.state c.args.memory.now).memory.words in
    nonzero-zeros words c.args.table i (ap (nonzero_in words) (sym c.number.ensures) ∙ sym c.nonzero.ensures ∙ eqb-true c.nonzero.result 0 is) lt

pub returns-clause-no : goal.returns-clause-no
returns-clause-no g c = λ isnt. grind (arith, common_steps, nat_tests, nonzero-word)
