use Rattle.stage2.proofs.Names.{nat_tests, PageRun, touches_chunk, lie_within, common_steps, ◌≡◌, ◌≢◌, ℕ, ◌+◌, ◌*◌, ◌/◌, ◌≤◌, true, false, List, arith}
use Rattle.stage2.proofs.Counting.Bounds.{between, in-chunk}
use Rattle.stage2.proofs.Runs.Normal.{any-within}
use Rattle.stage2.proofs.site.ChunkEdit.alone.Goals as goal

-- runs within a chunk touch no other
elsewhere : (runs : List PageRun) (first end c k : ℕ) → lie_within first end runs ≡ true → c ≡ first / 512 → end ≤ 512 * c + 512 → k ≢ c → touches_chunk k runs ≡ false
elsewhere runs first end c k within is last differs = grind (arith, common_steps, nat_tests, any-within)

pub new-requires : goal.new-requires
new-requires c = grind (arith, common_steps, nat_tests, between)

pub pieces_within-requires-clause-only : goal.pieces_within-requires-clause-only
pieces_within-requires-clause-only c = grind (arith, common_steps, nat_tests, in-chunk)

pub returns : goal.returns
returns c = grind (arith, common_steps, nat_tests, in-chunk, elsewhere)
