-- The places of the page below `index` are filled.
use Rattle.pool.proofs.Names.{with_zeros, ◌≡◌}
use Rattle.pool.proofs.block.fill_page.Given as goal

abbrev pub invariant-loop-index : goal.invariant-loop-index
invariant-loop-index l = record {
  place : l.cells.at ≡ l.fn.cells.at;
  slots : l.cells.slots ≡ with_zeros l.fn.cells.slots l.page l.index;
}
