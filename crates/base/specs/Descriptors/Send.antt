-- The memory transaction descriptor of a send: its fields at their offsets, and the rules that they keep (FF-A 1.1 and 1.0, "Memory transaction descriptor", "Endpoint memory access descriptor", "Composite memory region descriptor", "Constituent memory region descriptor").
use Rattle.std.specs.Prelude.{◌≡◌, ℕ, zero, suc, ◌+◌, ◌*◌, ◌/◌, ◌%◌, ◌^◌, Bool, true, ◌&&◌, ◌||◌, ◌==◌, nat_le, List, [], ◌∷◌, length, drop, slice_index, IsTrue, sum_by}
use Rattle.byteorder.specs.Endian.{little_number}
use Rattle.base.specs.declared.partition.Version.{Version}
use Rattle.base.specs.declared.partition.Version.TheVariants.{V10, V11}
use Rattle.base.specs.Pages.{PageRun, are_disjoint}
use Rattle.base.specs.Descriptors.Permissions.{are_permissions, are_attributes}

-- the little-endian numbers at an offset
unfoldable pub u16_at : List ℕ → ℕ → ℕ
u16_at bytes at = little_number 2 (drop at bytes)

unfoldable pub u32_at : List ℕ → ℕ → ℕ
u32_at bytes at = little_number 4 (drop at bytes)

unfoldable pub u64_at : List ℕ → ℕ → ℕ
u64_at bytes at = little_number 8 (drop at bytes)

-- a receiver that a send names, with its permissions byte
pub record Endpoint : Type 0 where
  pub partition : ℕ
  pub permissions : ℕ

pub record Send : Type 0 where
  pub sender : ℕ
  pub attributes : ℕ
  pub clears : Bool
  pub tag : ℕ
  pub receivers : List Endpoint
  pub ranges : List PageRun

-- ---- where the parts lie

abbrev pub header_size : Version → ℕ
header_size V10 = 32
header_size V11 = 48

-- the access descriptors begin right after a header of 1.0, and where one of 1.1 says
abbrev pub array_at : Version → List ℕ → ℕ
array_at V10 bytes = 32
array_at V11 bytes = u32_at bytes 32

abbrev pub receiver_count : List ℕ → ℕ
receiver_count bytes = u32_at bytes 28

abbrev pub composite_at : Version → List ℕ → ℕ
composite_at version bytes = u32_at bytes (array_at version bytes + 4)

abbrev pub range_count : Version → List ℕ → ℕ
range_count version bytes = u32_at bytes (composite_at version bytes + 4)

-- The header, 1 to 8 access descriptors, the composite descriptor and its 1 to 512 ranges stand in this order, and the last range ends where the bytes do.
unfoldable pub has_layout : Version → List ℕ → Bool
has_layout version bytes =
    nat_le (header_size version) (length bytes)
    && nat_le 1 (receiver_count bytes) && nat_le (receiver_count bytes) 8
    && nat_le (header_size version) (array_at version bytes)
    && nat_le (array_at version bytes + 16 * receiver_count bytes) (composite_at version bytes)
    && nat_le 1 (range_count version bytes) && nat_le (range_count version bytes) 512
    && (length bytes == composite_at version bytes + 16 + 16 * range_count version bytes)

-- ---- the header

-- bit 0 of the flags orders that the pages are cleared; the other bits are reserved, and 0
abbrev pub are_clear_flags : ℕ → Bool
are_clear_flags flags = (flags == 0) || (flags == 1)

abbrev pub orders_clear : ℕ → Bool
orders_clear flags = flags == 1

-- from byte 24 on: in 1.0 a reserved word; in 1.1 the size of an access descriptor and, behind the array's offset, reserved words
abbrev pub is_rest_of_header : Version → List ℕ → Bool
is_rest_of_header V10 bytes = u32_at bytes 24 == 0
is_rest_of_header V11 bytes =
    (u32_at bytes 24 == 16) && (array_at V11 bytes % 16 == 0) && (u64_at bytes 36 == 0)
    && (u32_at bytes 44 == 0)

-- in 1.0 the second byte of the attributes is reserved, and 0
unfoldable pub is_header : Version → List ℕ → Bool
is_header version bytes =
    are_attributes (u16_at bytes 2)
    && are_clear_flags (u32_at bytes 4)
    && (u64_at bytes 8 == 0)
    && is_rest_of_header version bytes

-- ---- the access descriptors

-- an access descriptor that points at this composite descriptor
unfoldable pub is_access : List ℕ → ℕ → ℕ → Bool
is_access bytes composite at =
    are_permissions (slice_index bytes (at + 2))
    && (slice_index bytes (at + 3) == 0)
    && (u32_at bytes (at + 4) == composite)
    && (u64_at bytes (at + 8) == 0)

abbrev pub are_accesses : ℕ → List ℕ → ℕ → ℕ → Bool
are_accesses zero bytes composite at = true
are_accesses (suc count) bytes composite at =
    is_access bytes composite at && are_accesses count bytes composite (at + 16)

abbrev pub endpoint_at : List ℕ → ℕ → Endpoint
endpoint_at bytes at =
    record { partition = u16_at bytes at; permissions = slice_index bytes (at + 2) }

abbrev pub endpoints_at : ℕ → List ℕ → ℕ → List Endpoint
endpoints_at zero bytes at = []
endpoints_at (suc count) bytes at =
    endpoint_at bytes at ∷ endpoints_at count bytes (at + 16)

-- ---- the composite descriptor and its ranges

-- whole pages, at least one, within input addresses of 39 bits
unfoldable pub is_range : List ℕ → ℕ → Bool
is_range bytes at =
    (u64_at bytes at % 4096 == 0)
    && nat_le 1 (u32_at bytes (at + 8))
    && nat_le (u64_at bytes at / 4096 + u32_at bytes (at + 8)) (2 ^ 27)
    && (u32_at bytes (at + 12) == 0)

abbrev pub are_ranges : ℕ → List ℕ → ℕ → Bool
are_ranges zero bytes at = true
are_ranges (suc count) bytes at = is_range bytes at && are_ranges count bytes (at + 16)

abbrev pub range_at : List ℕ → ℕ → PageRun
range_at bytes at = record { first = u64_at bytes at / 4096; count = u32_at bytes (at + 8) }

abbrev pub ranges_at : ℕ → List ℕ → ℕ → List PageRun
ranges_at zero bytes at = []
ranges_at (suc count) bytes at =
    range_at bytes at ∷ ranges_at count bytes (at + 16)

abbrev pub ranges_of : Version → List ℕ → List PageRun
ranges_of version bytes =
    ranges_at (range_count version bytes) bytes (composite_at version bytes + 16)

abbrev pub pages_in : List PageRun → ℕ
pages_in runs = sum_by (λ run. run.count) runs

-- a total page count that is the sum of the ranges' and at most 262,144 pages (1 GB), and a reserved word
unfoldable pub is_composite : Version → List ℕ → Bool
is_composite version bytes =
    (composite_at version bytes % 16 == 0)
    && (u64_at bytes (composite_at version bytes + 8) == 0)
    && (pages_in (ranges_of version bytes) == u32_at bytes (composite_at version bytes))
    && nat_le (pages_in (ranges_of version bytes)) 262144

-- ---- the whole

-- The bytes are those of a send.
unfoldable pub is_send : Version → List ℕ → Bool
is_send version bytes =
    has_layout version bytes
    && is_header version bytes
    && are_accesses (receiver_count bytes) bytes (composite_at version bytes)
    (array_at version bytes)
    && are_ranges (range_count version bytes) bytes (composite_at version bytes + 16)
    && are_disjoint (ranges_of version bytes)
    && is_composite version bytes

-- the values of the fields
unfoldable pub send_of : Version → List ℕ → Send
send_of version bytes =
    record {
      sender = u16_at bytes 0;
      attributes = u16_at bytes 2;
      clears = orders_clear (u32_at bytes 4);
      tag = u64_at bytes 16;
      receivers = endpoints_at (receiver_count bytes) bytes (array_at version bytes);
      ranges = ranges_of version bytes;
    }

-- the bytes spell the send
abbrev pub SpellsSend : Version → List ℕ → Send → Type 0
SpellsSend version bytes v = IsTrue (is_send version bytes) × (v ≡ send_of version bytes)
