use Rattle.stage2.proofs.Names.{gaps_of, nat_tests, common_steps, ◌*◌, arith}
use Rattle.pool.proofs.Gaps.{rise-normal, gaps-rise, gaps-words, gaps-out}
use Rattle.stage2.proofs.Editing.Gaps.{writes-gap-runs}
use Rattle.stage2.proofs.Editing.RunWords.{runs-written}
use Rattle.stage2.proofs.Counting.Pieces.{words-pages}
use Rattle.stage2.proofs.level3.write_gaps.Goals as goal

pub set_gaps-requires : goal.set_gaps-requires
set_gaps-requires g c = grind (arith, common_steps, nat_tests, words-pages, gaps-words, rise-normal, gaps-out)

pub returns-clause-writes : goal.returns-clause-writes
returns-clause-writes g c =
    let e = c.args.edit.now in
    let w = c.chunk_words-words.ensures in
    let words = c.chunk_words-words.result in
    let old = g.M.TableMem.state c.args.memory.now in
    writes-gap-runs c.args.third e.chunk e.runs c.args.answer.now old (g.M.TableMem.state c.set_gaps.new.self) (rise-normal e.runs e.normal)
    (rw (c.set_gaps.ensures.state, w.page, w.start)
    (runs-written c.args.third e.chunk words.word words.step c.args.answer.now w.each (gaps_of (512 * e.chunk) e.runs) old (g.met.M.TableMem.whole c.args.memory.now) c.requires.page_in (gaps-rise (512 * e.chunk) e.runs)))

pub returns-clause-room : goal.returns-clause-room
returns-clause-room g c = grind (arith, common_steps, nat_tests, words-pages, gaps-words, rise-normal)
