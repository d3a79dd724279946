use Rattle.stage2.proofs.Names.{Pool, after_break, after_make, pages_of, words_of, Made, replaced, ◌≡◌, ◌+◌, ◌-◌, ◌*◌, ◌%◌, refl, sym, ap, subst, ◌∙◌, arith}
use Rattle.pool.proofs.Replaced.{replaces-one}
use Rattle.stage2.proofs.Editing.FilledChunks.{replace-pages, replace-made}
use Rattle.stage2.proofs.level2.replace_entry.Goals as goal

pub returns : goal.returns
returns g c =
    let old = g.M.TableMem.state c.args.memory.now in
    let a = c.args in
    let i = a.chunk % 512 in
    let whole = g.met.M.TableMem.whole a.memory.now in
    let one : c.index-index.result + 1 - c.index-index.result ≡ 1 = omega arith in
    let is : g.M.TableMem.state c.replace_words.new.self ≡ (after_make a.second i a.word (after_break a.p a.second i (record { first = 512 * a.chunk; count = 512 }) old)) =
    (rw (one, c.index-index.ensures.same, c.number.ensures, c.first.ensures.same) at c.replace_words.ensures.state) ∙ replaces-one a.p a.second i a.word 0 (512 * a.chunk) old in
    record {
      pages = ap (λ (s : Pool). pages_of s.memory) is ∙ replace-pages a.p a.second i a.word a.chunk old whole c.requires.page_in (omega arith);
      history = subst (λ (s : Pool). Made (replaced a.p a.second a.chunk (words_of old.memory.words a.second i) a.word) old s) (sym is) (replace-made a.p a.second i a.word a.chunk old whole c.requires.page_in (omega arith) refl);
      room = omega (arith, c.replace_words.ensures.room);
    }
