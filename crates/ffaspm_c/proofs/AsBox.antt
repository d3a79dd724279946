-- A `Kept` owns what a box of the manager owns.
use mir.Syntax.{impl, tnil, dnil}
use mathlib.Core.List.{[]}
use denote.Param.Laws.{Laws}
use denote.Signature.{Slot, plain}
use Rattle.std_alloc.proofs.BoxSteps.Form.{Bx}
use Rattle.std_heap.specs.contracts.Global as Heap
use Rattle.std_heap.specs.contracts.GlobalAllocator.TheImpl.{ghosts, dict}
use Rattle.std_heap.proofs.Global.TheLaws as heap
use Rattle.pool.specs.contracts.block.Block as Block
use Rattle.pool.specs.contracts.block.BlockWordStore.TheImpl as Words
use Rattle.pool.specs.contracts.table_pool.TablePoolTableMem.TheImpl as Memory
use Rattle.pool.proofs.block.Block.TheLaws as block
use Rattle.pool.proofs.table_pool.TablePool.TheLaws as pool
use Rattle.spm.proofs.spm.Spm.TheLaws as spm
use Rattle.ffaspm_c.specs.Kept.{pool_row, spm_row}
use Rattle.ffaspm_c.specs.contracts.kept.Kept as Kept
use Rattle.parts.specs.contracts.Parts as Parts

abbrev spm_laws : Laws spm_row
spm_laws = spm.the_row_laws pool_row (Memory.ghosts Block.the_row Words.ghosts Memory.no_dict Memory.no_dict) (pool.the_row_laws Block.the_row Words.ghosts block.the_row_laws)

abbrev pub E : Bx
E = record { row = spm_row; laws = spm_laws; al = record { row = Heap.the_row; laws = heap.the_row_laws; g = ghosts; d = dict; drops = impl [] tnil dnil } }

abbrev pub FromKept : Slot 0
FromKept = plain (λ _. Kept.the_row)

abbrev pub FromParts : Slot 0
FromParts = plain (λ _. Parts.the_row spm_row Heap.the_row ghosts)
