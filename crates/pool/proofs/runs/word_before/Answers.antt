use Rattle.std.proofs.Common.{ℕ, ◌==◌, ap}
use Rattle.pool.proofs.Nonzero.{read-test, word-read}
use Rattle.pool.proofs.runs.word_before.Goals as goal

pub returns-else-this-ne0-clause-zero : goal.returns-else-this-ne0-clause-zero
returns-else-this-ne0-clause-zero g c = read-test (g.S.WordStore.words c.args.store.now) c.args.at.page c.args.at.index c.standing_word.result c.requires.index_in c.standing_word.ensures

pub returns-else-this-ne0-clause-there : goal.returns-else-this-ne0-clause-there
returns-else-this-ne0-clause-there g c = ap (λ (n : ℕ). n == c.args.at.word) (word-read (g.S.WordStore.words c.args.store.now) c.args.at.page c.args.at.index c.standing_word.result c.requires.index_in c.standing_word.ensures)
