use Rattle.stage2.proofs.Names.{word_in, Layout, slot, next_page, ◌≡◌, ℕ, ◌<◌, ◌≤◌, true, None}
use Rattle.stage2.proofs.level2.are_plain.Given as goal

-- the chunks before this one have no table, if it is so yet
abbrev pub invariant-loop-index : goal.invariant-loop-index
invariant-loop-index g l = record {
  before : l.are ≡ true → (layout : Layout) (x : ℕ) → l.fn.first ≤ x → x < l.index → next_page (slot layout 2 (word_in (g.M.TableMem.state l.memory) l.second x)) ≡ None;
}
