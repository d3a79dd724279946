use Rattle.stage2.proofs.Names.{covers, part_count, Settles, ◌≡◌, ◌+◌, ◌/◌, ◌&&◌, eqb, take}
use Rattle.stage2.proofs.level3.invalidate_parts.Given as goal

-- the parts of the first runs are invalidated
abbrev pub invariant-loop-run : goal.invariant-loop-run
invariant-loop-run g l = record {
  memory : (g.M.TableMem.state l.memory).memory ≡ (g.M.TableMem.state l.fn.memory).memory;
  settles : Settles l.p (λ n. covers (take l.run-index l.runs) n && eqb (n / 512) l.chunk) (g.M.TableMem.state l.fn.memory) (g.M.TableMem.state l.memory);
  room : g.M.TableMem.room l.fn.memory ≡ g.M.TableMem.room l.memory + part_count l.chunk (take l.run-index l.runs);
}
