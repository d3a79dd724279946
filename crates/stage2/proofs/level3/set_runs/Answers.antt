use Rattle.pool.proofs.Gaps.{rise-normal}
use Rattle.stage2.proofs.Editing.RunWords.{runs-written}
use Rattle.stage2.proofs.Counting.Pieces.{words-pages}
use Rattle.stage2.proofs.level3.set_runs.Goals as goal
use Rattle.stage2.proofs.Names.{nat_tests, common_steps, arith}

pub set_runs-requires-clause-ready : goal.set_runs-requires-clause-ready
set_runs-requires-clause-ready g c = grind (arith, common_steps, nat_tests, words-pages c.args.edit.now.chunk c.args.edit.now.runs c.args.edit.now.normal)

pub returns : goal.returns
returns g c =
    let e = c.args.edit.now in
    let w = c.chunk_words-words.ensures in
    let words = c.chunk_words-words.result in
    grind (arith, common_steps, nat_tests, runs-written c.args.third e.chunk words.word words.step e.access w.each e.runs (g.M.TableMem.state c.args.memory.now) (g.met.M.TableMem.whole c.args.memory.now) c.requires.page_in (rise-normal e.runs e.normal), words-pages c.args.edit.now.chunk c.args.edit.now.runs c.args.edit.now.normal)
