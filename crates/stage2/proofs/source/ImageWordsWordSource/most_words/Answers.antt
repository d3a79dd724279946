use Rattle.stage2.proofs.Names.{words_of, nonzero_in, ℕ, ◌≤◌, List, not, eqb}
use Rattle.pool.proofs.Count.{count_below-le}
use Rattle.stage2.proofs.source.ImageWordsWordSource.most_words.Goals as goal

few : (words : List ℕ) (page : ℕ) → nonzero_in (words_of words) page ≤ 512
unfolding nonzero_in
few words page = count_below-le (λ i. not (eqb (words_of words page i) 0)) 512

pub returns : goal.returns
returns c = few _ c.args._page
