-- The memory transaction descriptor of a retrieve response: its fields at their offsets, and the rules that they keep (FF-A 1.1 and 1.0, "FFA_MEM_RETRIEVE_RESP", "Memory transaction descriptor", "Endpoint memory access descriptor", "Composite memory region descriptor").
use Rattle.std.specs.Prelude.{◌≡◌, ℕ, ◌+◌, ◌*◌, Bool, ◌&&◌, ◌||◌, ◌==◌, nat_le, List, length, slice_index, IsTrue, if◌then◌else◌}
use Rattle.base.specs.declared.partition.Version.{Version}
use Rattle.base.specs.declared.transaction.Kind.{Kind}
use Rattle.base.specs.declared.transaction.Kind.TheVariants.{Share, Lend, Donate}
use Rattle.base.specs.Pages.{PageRun, are_disjoint}
use Rattle.base.specs.Descriptors.Send.{Endpoint, u16_at, u32_at, u64_at, header_size, array_at, receiver_count, composite_at, range_count, is_rest_of_header, is_access, are_ranges, ranges_of, is_composite}

-- the ranges stand in the order in which they were sent
pub record Response : Type 0 where
  pub sender : ℕ
  pub kind : Kind
  pub handle : ℕ
  pub tag : ℕ
  pub endpoint : Endpoint
  pub ranges : List PageRun

-- the type in bits 4:3
abbrev pub kind_bits : Kind → ℕ
kind_bits Share = 8
kind_bits Lend = 16
kind_bits Donate = 24

abbrev pub kind_named : ℕ → Kind
kind_named flags = if flags == 8 then Share else if flags == 16 then Lend else Donate

-- The header, one access descriptor, the composite descriptor and its ranges follow each other without gaps, and the last range ends where the bytes do.
unfoldable pub has_response_layout : Version → List ℕ → Bool
has_response_layout version bytes =
    nat_le (header_size version) (length bytes)
    && (receiver_count bytes == 1)
    && (array_at version bytes == header_size version)
    && (composite_at version bytes == header_size version + 16)
    && nat_le 1 (range_count version bytes) && nat_le (range_count version bytes) 512
    && (length bytes == header_size version + 32 + 16 * range_count version bytes)

-- normal memory, write-back, inner shareable; and the type of the transaction
unfoldable pub is_response_header : Version → List ℕ → Bool
is_response_header version bytes =
    (u16_at bytes 2 == 0x2f)
    && ((u32_at bytes 4 == 8) || (u32_at bytes 4 == 16) || (u32_at bytes 4 == 24))
    && is_rest_of_header version bytes

-- data access and instruction access are granted or not, 1 or 2 each
abbrev pub are_granted : ℕ → Bool
are_granted permissions =
    (permissions == 5) || (permissions == 6) || (permissions == 9) || (permissions == 10)

-- The bytes are those of a retrieve response.
unfoldable pub is_response : Version → List ℕ → Bool
is_response version bytes =
    has_response_layout version bytes
    && is_response_header version bytes
    && are_granted (slice_index bytes (header_size version + 2))
    && is_access bytes (header_size version + 16) (header_size version)
    && are_ranges (range_count version bytes) bytes (header_size version + 32)
    && are_disjoint (ranges_of version bytes)
    && is_composite version bytes

-- the values of the fields
unfoldable pub response_of : Version → List ℕ → Response
response_of version bytes =
    let at = header_size version in
    record {
      sender = u16_at bytes 0;
      kind = kind_named (u32_at bytes 4);
      handle = u64_at bytes 8;
      tag = u64_at bytes 16;
      endpoint = record { partition = u16_at bytes at; permissions = slice_index bytes (at + 2) };
      ranges = ranges_of version bytes;
    }

-- the bytes spell the response
abbrev pub SpellsResponse : Version → List ℕ → Response → Type 0
SpellsResponse version bytes v =
    IsTrue (is_response version bytes) × (v ≡ response_of version bytes)
