-- What the plan of one chunk's edit says.
use Rattle.stage2.proofs.Names.{nat_tests, common_steps, View, Plan, ChunkEdit, table_operations, ◌≡◌, ℕ, ◌+◌, ◌≤◌, ◌⊎◌, Bool, true, max, arith}
use Rattle.stage2.specs.inner.Clauses.{IsEditPlanned}
use Rattle.stage2.proofs.Editing.ChunkByChunk.{bit}

-- three operations on the chunk's own word, and so many on others, of which there are few more than are made
pub edit-planned : {before : ℕ → View} {e : ChunkEdit} {looked : Bool} {plan : Plan} (grows : Bool) (n : ℕ) → plan ≡ record { tables = bit grows; operations = 3 + n } → table_operations e.runs e.access before e.chunk ≤ n → (looked ≡ true → n ≤ 4 + table_operations e.runs e.access before e.chunk) → n ≤ 1024
    → IsEditPlanned before e grows looked plan
edit-planned grows n is least most small = grind (arith, common_steps, nat_tests)

-- the more of two numbers, one of which they are
pub either-most : (t kept gone most : ℕ) → (t ≡ kept) ⊎ (t ≡ gone) → most ≡ max kept gone → t ≤ most
either-most t kept gone most either is = grind (arith, common_steps, nat_tests)
