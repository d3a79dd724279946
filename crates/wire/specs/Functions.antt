-- The identifiers of calls (FF-A 1.1, "Function identifiers").
use Rattle.std.specs.Prelude.{ℕ, Bool, List, [], ◌∷◌, ◌||◌, ◌==◌, Option, is_some}
use Rattle.std.specs.List.{find}
use Rattle.std.specs.Option.{option_map}
use Rattle.base.specs.declared.transaction.Kind.TheVariants.{Share, Lend, Donate}
use Rattle.wire.specs.declared.function.Function.{Function}
use Rattle.wire.specs.declared.function.Function.TheVariants.{Version, Features, RxRelease, RxtxMap, RxtxUnmap, IdGet, Send, RetrieveReq, Relinquish, Reclaim}

pub record Identifier : Type 0 where
  pub number : ℕ
  pub function : Function

infix 3 ◌names◌
abbrev pub ◌names◌ : ℕ → Function → Identifier
number names function = record { number = number; function = function }

-- the calls that are accepted; those from 0xc4000066 on are 64-bit calls
abbrev pub identifiers : List Identifier
identifiers =
    (0x84000063 names Version)
    ∷ (0x84000064 names Features)
    ∷ (0x84000065 names RxRelease)
    ∷ (0x84000066 names RxtxMap)
    ∷ (0xc4000066 names RxtxMap)
    ∷ (0x84000067 names RxtxUnmap)
    ∷ (0x84000069 names IdGet)
    ∷ (0x84000071 names Send Donate)
    ∷ (0xc4000071 names Send Donate)
    ∷ (0x84000072 names Send Lend)
    ∷ (0xc4000072 names Send Lend)
    ∷ (0x84000073 names Send Share)
    ∷ (0xc4000073 names Send Share)
    ∷ (0x84000074 names RetrieveReq)
    ∷ (0xc4000074 names RetrieveReq)
    ∷ (0x84000076 names Relinquish)
    ∷ (0x84000077 names Reclaim)
    ∷ []

-- the function that an identifier names
abbrev pub function_of : ℕ → Option Function
function_of number = option_map (λ i. i.function) (find (λ i. i.number == number) identifiers)

-- the calls, and FFA_ERROR, FFA_SUCCESS and FFA_MEM_RETRIEVE_RESP, which answer them
unfoldable pub is_feature : ℕ → Bool
is_feature number =
    is_some (function_of number) || (number == 0x84000060) || (number == 0x84000061)
    || (number == 0x84000075)
