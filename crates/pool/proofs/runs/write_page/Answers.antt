use Rattle.pool.proofs.Names.{common_steps, nat_tests, words_of, ◌≡◌, ◌≢◌, ◌==◌, ℕ, ap, sym, ◌∙◌, arith}
use Rattle.pool.proofs.Alone.{alone-outside, alone-words, alone-set, alone-stays}
use Rattle.pool.proofs.Wrote.{wrote-none, wrote-as}
use Rattle.pool.proofs.runs.write_page.Goals as goal

pub returns-then-index-ge-TABLE_WORDS-clause-wrote : goal.returns-then-index-ge-TABLE_WORDS-clause-wrote
returns-then-index-ge-TABLE_WORDS-clause-wrote g c = grind (arith, common_steps, nat_tests, wrote-none, alone-outside)

differs : (before word next : ℕ) → (before == next) ≡ (word == next) → before ≢ next → word ≢ next
differs before word next same other = grind (arith, nat_tests)

pub returns-then-before-at-clause-wrote : goal.returns-then-before-at-clause-wrote
returns-then-before-at-clause-wrote g c = grind (arith, common_steps, nat_tests, wrote-none, alone-stays)

pub returns-clause-wrote : goal.returns-clause-wrote
returns-clause-wrote g c =
    let at = c.index_at-index.ensures.within c.if-index-ge-TABLE_WORDS.false in
    let other = rw c.from.ensures at (differs _ _ _ c.word_before-before.ensures.there c.if-before-at.false) in
    wrote-as (rw c.from.ensures at c.write_word.ensures.wrote) (omega (arith, alone-words c.args.with c.args.page c.index_at-index.result c.if-index-ge-TABLE_WORDS.false at)) (λ pool same. sym (alone-set c.args.with c.args.page c.index_at-index.result c.if-index-ge-TABLE_WORDS.false at pool (λ is. other (ap (λ l. words_of l c.args.with.page c.index_at-index.result) (sym same) ∙ is))))
