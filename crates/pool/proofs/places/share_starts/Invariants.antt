-- The shares of the rows so far begin where the list says, and the next one begins at `start`.
use Rattle.pool.proofs.Names.{share_start, ◌≡◌, ℕ, ◌<◌, length, slice_index}
use Rattle.pool.proofs.places.share_starts.Given as goal

abbrev pub invariant-loop-quota : goal.invariant-loop-quota
invariant-loop-quota l = record {
  rows : length l.starts.items ≡ l.quota-index;
  next : l.start ≡ share_start l.quotas l.quota-index;
  each : (row : ℕ) → row < l.quota-index → slice_index l.starts.items row ≡ share_start l.quotas row;
}
