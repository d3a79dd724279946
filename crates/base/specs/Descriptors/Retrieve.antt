-- The memory transaction descriptor of a retrieve request: its fields at their offsets, and the rules that they keep (FF-A 1.1 and 1.0, "FFA_MEM_RETRIEVE_REQ", "Memory transaction descriptor", "Endpoint memory access descriptor").
use Rattle.std.specs.Prelude.{◌≡◌, ℕ, ◌+◌, ◌*◌, ◌/◌, ◌%◌, Bool, ◌&&◌, ◌==◌, nat_le, List, length, slice_index, Option, Some, None, IsTrue, if◌then◌else◌}
use Rattle.base.specs.declared.partition.Version.{Version}
use Rattle.base.specs.declared.transaction.Kind.{Kind}
use Rattle.base.specs.declared.transaction.Kind.TheVariants.{Share, Lend, Donate}
use Rattle.base.specs.Descriptors.Send.{Endpoint, u16_at, u32_at, u64_at, header_size, array_at, receiver_count, is_rest_of_header, is_access}
use Rattle.base.specs.Descriptors.Permissions.{are_attributes}

-- the kind that the request asks for, or any; whether the check that all borrowers are named is bypassed
pub record Retrieve : Type 0 where
  pub sender : ℕ
  pub attributes : ℕ
  pub kind : Option Kind
  pub bypass : Bool
  pub handle : ℕ
  pub tag : ℕ
  pub endpoint : Endpoint

-- ---- the flags

-- the type in bits 4:3
abbrev pub kind_in : ℕ → Option Kind
kind_in flags =
    if flags / 8 % 4 == 0 then None
    else if flags / 8 % 4 == 1 then Some Share
    else if flags / 8 % 4 == 2 then Some Lend
    else Some Donate

-- no bit but those of the type and bit 10 is set
unfoldable pub are_flags : ℕ → Bool
are_flags flags = flags == 8 * (flags / 8 % 4) + 1024 * (flags / 1024 % 2)

-- ---- the whole

-- The header and one access descriptor stand in this order, and the bytes end there.
unfoldable pub has_retrieve_layout : Version → List ℕ → Bool
has_retrieve_layout version bytes =
    nat_le (header_size version) (length bytes)
    && (receiver_count bytes == 1)
    && nat_le (header_size version) (array_at version bytes)
    && (length bytes == array_at version bytes + 16)

unfoldable pub is_retrieve_header : Version → List ℕ → Bool
is_retrieve_header version bytes =
    are_attributes (u16_at bytes 2)
    && are_flags (u32_at bytes 4)
    && is_rest_of_header version bytes

-- The bytes are those of a retrieve request; its access descriptor points at no composite descriptor.
unfoldable pub is_retrieve : Version → List ℕ → Bool
is_retrieve version bytes =
    has_retrieve_layout version bytes
    && is_retrieve_header version bytes
    && is_access bytes 0 (array_at version bytes)

-- the values of the fields
unfoldable pub retrieve_of : Version → List ℕ → Retrieve
retrieve_of version bytes =
    let at = array_at version bytes in
    record {
      sender = u16_at bytes 0;
      attributes = u16_at bytes 2;
      kind = kind_in (u32_at bytes 4);
      bypass = u32_at bytes 4 / 1024 % 2 == 1;
      handle = u64_at bytes 8;
      tag = u64_at bytes 16;
      endpoint = record { partition = u16_at bytes at; permissions = slice_index bytes (at + 2) };
    }

-- the bytes spell the request
abbrev pub SpellsRetrieve : Version → List ℕ → Retrieve → Type 0
SpellsRetrieve version bytes v =
    IsTrue (is_retrieve version bytes) × (v ≡ retrieve_of version bytes)
