use Rattle.pool.proofs.Names.{covers, words_of, gaps_from, gaps_of, ◌≡◌, ℕ, ◌+◌, ◌*◌, ◌<◌, ◌≤◌, drop, true, false}
use Rattle.pool.proofs.looks.are_gaps_there.Given as goal

-- the words of all gaps but those that are left are there
abbrev pub invariant-loop-run : goal.invariant-loop-run
invariant-loop-run g l = record {
  left : (n : ℕ) → covers (gaps_from l.with.start l.first (drop l.run-index l.runs)) n ≡ true → covers (gaps_of l.with.start l.runs) n ≡ true;
  done : (i : ℕ) → i < 512 → covers (gaps_of l.with.start l.runs) (l.with.start + i) ≡ true → covers (gaps_from l.with.start l.first (drop l.run-index l.runs)) (l.with.start + i) ≡ false
      → words_of (g.S.WordStore.words l.store) l.with.page i ≡ l.with.word + l.with.step * i;
  most : l.first ≤ 512;
}
