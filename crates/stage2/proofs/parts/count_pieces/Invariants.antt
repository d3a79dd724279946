use Rattle.stage2.proofs.Names.{part_count, pages_in, ◌≡◌, ◌≤◌, take}
use Rattle.stage2.proofs.parts.count_pieces.Given as goal

-- the pages of the first runs are counted
abbrev pub invariant-loop-run : goal.invariant-loop-run
invariant-loop-run l = record {
  pages : l.pieces.pages ≡ pages_in (take l.run-index l.list) l.chunk;
  runs : l.pieces.runs ≡ part_count l.chunk (take l.run-index l.list);
  few : l.pieces.runs ≤ l.pieces.pages;
}
