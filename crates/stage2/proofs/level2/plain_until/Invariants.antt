use Rattle.stage2.proofs.Names.{word_in, Layout, slot, next_page, ◌≡◌, ℕ, ◌-◌, ◌<◌, ◌≤◌, None}
use Rattle.stage2.proofs.level2.plain_until.Given as goal

-- the chunks before this one have no table
abbrev pub invariant-loop-index : goal.invariant-loop-index
invariant-loop-index g l = record {
  from : l.first ≤ l.index;
  most : l.first < l.index → l.index ≤ l.end;
  plain : (layout : Layout) (x : ℕ) → l.first ≤ x → x < l.index → next_page (slot layout 2 (word_in (g.M.TableMem.state l.memory) l.second x)) ≡ None;
}

abbrev pub decreases-loop-index : goal.decreases-loop-index
decreases-loop-index g l = l.end - l.index
