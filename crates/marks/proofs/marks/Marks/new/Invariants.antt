-- the first numbers have marks, and those behind them up to this one have none
use Rattle.std.proofs.Common.{◌≡◌, ℕ, ◌+◌, ◌<◌, ◌≤◌, true, false, length, slice_index_or}
use Rattle.marks.proofs.marks.Marks.new.Given as goal

abbrev pub invariant-loop-n : goal.invariant-loop-n
invariant-loop-n l = record {
  count : length l.marks ≡ l.marked + l.unmarked;
  first : (k : ℕ) → k < l.marked → slice_index_or l.marks k false ≡ true;
  behind : (k : ℕ) → l.marked ≤ k → k < l.n → slice_index_or l.marks k false ≡ false;
}
