use Rattle.pool.proofs.Names.{nat_tests, common_steps, log_of, arith}
use Rattle.pool.proofs.Nonzero.{nonzero-le, recount-some, nonzero-put}
use Rattle.pool.proofs.Wrote.{wrote-set}
use Rattle.pool.proofs.stretch.write_word.Goals as goal
use Rattle.pool.proofs.Words.{words_of-set_at}

pub recounted-requires : goal.recounted-requires
recounted-requires g c = grind (arith, common_steps, nat_tests, nonzero-le, recount-some)

pub returns-clause-wrote : goal.returns-clause-wrote
returns-clause-wrote g c =
    let at = c.args.at in
    wrote-set at.page at.index at.word _ _ (log_of c.args.operations.now c.args.nonzero) (log_of c.push_reserved.new.self c.recounted.result) c.set_word.ensures.words c.push_reserved.ensures.items (record { len = omega (arith, c.push_reserved.ensures.len); capacity = c.push_reserved.ensures.capacity })
    (grind (arith, nat_tests, nonzero-put, words_of-set_at))
