-- Permissions and memory attributes as descriptors spell them (FF-A 1.1, "Memory access permissions descriptor", "Memory region attributes descriptor").
use Rattle.std.specs.Prelude.{ℕ, ◌/◌, ◌%◌, Bool, ◌&&◌, ◌||◌, ◌==◌, nat_lt, if◌then◌else◌}
use Rattle.base.specs.declared.permissions.DataAccess.{DataAccess}
use Rattle.base.specs.declared.permissions.DataAccess.TheVariants as data_access
use Rattle.base.specs.declared.permissions.InstructionAccess.{InstructionAccess}
use Rattle.base.specs.declared.permissions.InstructionAccess.TheVariants as instruction_access

-- ---- the permissions byte

-- bits 1:0
abbrev pub data_in : ℕ → DataAccess
data_in permissions =
    if permissions % 4 == 0 then data_access.NotSpecified
    else if permissions % 4 == 1 then data_access.ReadOnly
    else if permissions % 4 == 2 then data_access.ReadWrite
    else data_access.Reserved

-- bits 3:2
abbrev pub instruction_in : ℕ → InstructionAccess
instruction_in permissions =
    if permissions / 4 % 4 == 0 then instruction_access.NotSpecified
    else if permissions / 4 % 4 == 1 then instruction_access.NotExecutable
    else if permissions / 4 % 4 == 2 then instruction_access.Executable
    else instruction_access.Reserved

-- neither part is reserved, and bits 7:4 are 0
abbrev pub are_permissions : ℕ → Bool
are_permissions permissions = nat_lt (permissions % 4) 3 && nat_lt (permissions / 4) 3

-- neither data access nor instruction access is specified
abbrev pub no_permissions : ℕ
no_permissions = 0

-- data access alone is specified
abbrev pub read_only : ℕ
read_only = 1

abbrev pub read_write : ℕ
read_write = 2

-- ---- the attributes

abbrev pub not_specified : ℕ
not_specified = 0

-- normal memory in bits 5:4, write-back in bits 3:2, inner shareable in bits 1:0
abbrev pub normal_write_back : ℕ
normal_write_back = 0x2f

-- one of the two that a send or a retrieve request may have
abbrev pub are_attributes : ℕ → Bool
are_attributes a = (a == not_specified) || (a == normal_write_back)
