use Rattle.std.proofs.Common.{◌≡◌, ℕ, ◌*◌, ◌<◌, replicate, true}
use Rattle.pool.proofs.table_pool.filled.Given as goal

-- the pages before this one stand in memory
abbrev pub invariant-loop-page : goal.invariant-loop-page
invariant-loop-page g l = record {
  words : g.S.WordStore.words l.store ≡ replicate (512 * l.pages) 0;
  standing : (q : ℕ) → q < l.page → g.S.WordStore.stands l.store q ≡ true;
}
