use Rattle.stage2.proofs.Names.{words_of, ◌≡◌, ℕ, ◌<◌, ◌≤◌, true}
use Rattle.stage2.proofs.cursor.are_same_words.Given as goal

-- the words before this index are the same, if none differed
abbrev pub invariant-loop-index : goal.invariant-loop-index
invariant-loop-index g l = l.same ≡ true → (x : ℕ) → l.fn.first ≤ x → x < l.index → words_of (g.W.WordSource.words l.words) l.table x ≡ words_of (g.V.WordSource.words l.others) l.other x
