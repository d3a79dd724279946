-- What a place for the manager owns: nothing, or the same as a `Box` of the manager.
use base.Fml.{Fml, ftrue}
use Rattle.std.specs.Prelude.{Option, None, Some}
use Rattle.std.specs.Coded.{Coded, coded_option}
use denote.RattleType.{RattleType}
use denote.RawPtr.{Ptr}
use Rattle.std.specs.Box.Ownership.{box_owns}
use Rattle.std.specs.Global.{Global}
use Rattle.std.specs.contracts.impls.GlobalAllocator.TheImpl.{ghosts}
use Rattle.std.specs.contracts.alloc.Global as Heap
use Rattle.pool.specs.contracts.block.Block as Block
use Rattle.pool.specs.contracts.block.BlockWordStore.TheImpl as Words
use Rattle.pool.specs.contracts.table_pool.TablePool as Pool
use Rattle.pool.specs.contracts.table_pool.TablePoolTableMem.TheImpl as Memory
use Rattle.spm.specs.contracts.spm.Spm as Spm
use Rattle.spm.specs.Machine.{Machine}

-- the manager over table memory in one block of raw memory
abbrev pub pool_row : RattleType
pool_row = Pool.the_row Block.the_row Words.ghosts

abbrev pub spm_row : RattleType
spm_row = Spm.the_row pool_row (Memory.ghosts Block.the_row Words.ghosts Memory.no_dict Memory.no_dict)

unfoldable pub kept_owns : Global → Ptr → Option Machine → Fml
kept_owns alloc p None = ftrue
kept_owns alloc p (Some m) = box_owns (ghosts.dealloc_token alloc) spm_row p m

abbrev pub kept_coded : Coded (Option Machine)
kept_coded = coded_option spm_row.coded
