-- What the registers of a call ask for (FF-A 1.1, "Interface overview").
use Rattle.std.specs.Prelude.{ℕ, ◌+◌, ◌*◌, ◌%◌, ◌^◌, Bool, nat_le, List, slice_index, Option, if◌then◌else◌}
use Rattle.std.specs.Option.{option_map}
use Rattle.base.specs.Handles.{of_halves}
use Rattle.wire.specs.declared.function.Function.{Function}
use Rattle.wire.specs.declared.function.Function.TheVariants as function
use Rattle.wire.specs.declared.request.Transfer.{Transfer}
use Rattle.wire.specs.declared.request.Request.{Request}
use Rattle.wire.specs.declared.request.Request.TheVariants.{Version, Features, RxRelease, RxtxMap, RxtxUnmap, IdGet, Send, Retrieve, Relinquish, Reclaim}
use Rattle.wire.specs.Functions.{function_of}

-- the low half of a register
abbrev pub word : List ℕ → ℕ → ℕ
word regs i = slice_index regs i % 2 ^ 32

-- a call of the 64-bit convention has bit 30 of its identifier set
abbrev pub is_wide : ℕ → Bool
is_wide identifier = nat_le 0xc0000000 identifier

-- a register whole in a 64-bit call, and its low half in a 32-bit call
abbrev pub argument : List ℕ → ℕ → ℕ
argument regs i = if is_wide (word regs 0) then slice_index regs i else word regs i

-- the lengths of a descriptor and of its part, and the address and the pages of another buffer
abbrev pub transfer_of : List ℕ → Transfer
transfer_of regs = record {
  total = word regs 1;
  fragment = word regs 2;
  address = argument regs 3;
  pages = word regs 4;
}

abbrev pub request_for : Function → List ℕ → Request
request_for function.Version regs = Version (word regs 1)
request_for function.Features regs = Features (word regs 1)
request_for function.RxRelease regs = RxRelease
request_for function.RxtxMap regs = RxtxMap (argument regs 1) (argument regs 2) (word regs 3)
request_for function.RxtxUnmap regs = RxtxUnmap (word regs 1)
request_for function.IdGet regs = IdGet
request_for (function.Send kind) regs = Send kind (transfer_of regs)
request_for function.RetrieveReq regs = Retrieve (transfer_of regs)
request_for function.Relinquish regs = Relinquish
request_for function.Reclaim regs = Reclaim (of_halves (word regs 1) (word regs 2)) (word regs 3)

-- nothing where register 0 names none of the calls
abbrev pub request_of : List ℕ → Option Request
request_of regs = option_map (λ f. request_for f regs) (function_of (word regs 0))
