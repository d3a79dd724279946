use Rattle.stage2.proofs.Names.{words_of, ◌+◌, ◌*◌, ◌%◌, sym, ap, ◌∙◌, arith}
use Rattle.stage2.proofs.Reading.Cursors.{skipped, ended, at-end, passed, counted, taken-entry}
use Rattle.stage2.proofs.cursor.Cursor.next.Goals as goal
use Rattle.stage2.proofs.cursor.Cursor.next.Goals.{then-loop-self-test+else-self-lt-TABLE_WORDS, else-loop-self-test}

pub returns-then-word-ne0-clause-entries : goal.returns-then-word-ne0-clause-entries
returns-then-word-ne0-clause-entries g c =
    let words = words_of (g.W.WordSource.words c.args.words.now) in
    let cursor = c.loop-self.self in
    let so = c.loop-self.invariant in
    let at = c.word-word.ensures ∙ ap (λ n. words n cursor.index) c.number.ensures in
    let first = c.new-first.ensures ∙ ap (λ n. cursor.first + n * cursor.index) c.pages.ensures in
    taken-entry _ words c.args.level c.args.self.now cursor c.new.result c.word-word.result c.new-first.result so.is so.same c.if-self-lt-TABLE_WORDS.true at c.if-word-ne0.true first c.new.ensures

pub returns-then-word-ne0-clause-is : goal.returns-then-word-ne0-clause-is
returns-then-word-ne0-clause-is g c =
    let words = words_of (g.W.WordSource.words c.args.words.now) in
    let cursor = c.loop-self.self in
    let at = c.word-word.ensures ∙ ap (λ n. words n cursor.index) c.number.ensures in
    counted _ words _ cursor c.loop-self.invariant.is c.if-self-lt-TABLE_WORDS.true c.loop-self-test.true (λ even. c.if-word-ne0.true (ap (λ n. n % 2) at ∙ even))

pub loop-self-preserved : goal.loop-self-preserved
loop-self-preserved g c =
    let words = words_of (g.W.WordSource.words c.args.words.now) in
    let cursor = c.loop-self.self in
    let so = c.loop-self.invariant in
    let at = c.word-word.ensures ∙ ap (λ n. words n cursor.index) c.number.ensures in
    record {
      is = passed _ _ _ cursor so.is c.if-self-lt-TABLE_WORDS.true;
      same = sym (skipped cursor.level cursor.first (words cursor.table) cursor.index c.if-self-lt-TABLE_WORDS.true (sym (ap (λ n. n % 2) at) ∙ c.if-word-ne0.false)) ∙ so.same;
    }

pub returns-clause-entries : goal.returns-clause-entries
returns-clause-entries g c =
    let words = words_of (g.W.WordSource.words c.args.words.now) in
    let cursor = c.loop-self.self in
    let so = c.loop-self.invariant in
    elim c.loop-self-test.branch [
      | then-loop-self-test+else-self-lt-TABLE_WORDS w ↦ let none = at-end words cursor w.if-self-lt-TABLE_WORDS.false in (sym so.same ∙ none, none)
      | else-loop-self-test w ↦ let none = ended _ words _ cursor so.is (let no = w.loop-self-test.false in omega (arith, no)) in (sym so.same ∙ none, none)
    ]
