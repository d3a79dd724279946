-- Where a memory in one block lies, and what of it is written.
use Rattle.std.specs.Prelude.{◌≡◌, ℕ, true}
use denote.RawPtr.{Ptr}
use Rattle.pool.specs.Cells.{IsPageFilled}
use Rattle.pool.specs.Pool.{taken_of}
use Rattle.pool.specs.declared.block.Block.{Block}
use Rattle.pool.specs.declared.table_pool.TablePool.{TablePool}
use Rattle.pool.specs.declared.word_store.WordStore.{Ghosts}

-- the place of its first word
abbrev pub address_of : {g : Ghosts Block} → TablePool Block g → Ptr
address_of memory = memory.store.base.ptr

-- each root, and each page that is taken, is written there, all its 512 words
abbrev pub AreTakenWritten : {g : Ghosts Block} → TablePool Block g → Type 0
AreTakenWritten memory = (page : ℕ) → taken_of memory.taken page ≡ true → IsPageFilled memory.store.cells.slots page
