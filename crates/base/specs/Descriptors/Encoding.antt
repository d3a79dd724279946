-- The text of descriptors of given fields, without gaps between their parts (FF-A 1.1 and 1.0, "Memory transaction descriptor", "Endpoint memory access descriptor", "Composite memory region descriptor", "Constituent memory region descriptor", "Descriptor to relinquish a memory region").
use Rattle.std.specs.Prelude.{ℕ, ◌+◌, ◌*◌, List, [], ◌∷◌, ◌++◌, length}
use Rattle.byteorder.specs.Endian.{little_bytes}
use Rattle.base.specs.declared.partition.Version.{Version}
use Rattle.base.specs.declared.partition.Version.TheVariants.{V10, V11}
use Rattle.base.specs.Pages.{PageRun}
use Rattle.base.specs.Descriptors.Send.{Endpoint, header_size, pages_in}
use Rattle.base.specs.Descriptors.Response.{Response, kind_bits}

-- ---- the parts

-- the fields of a header that both versions have
pub record HeaderFields : Type 0 where
  pub sender : ℕ
  pub attributes : ℕ
  pub flags : ℕ
  pub handle : ℕ
  pub tag : ℕ

-- from byte 24 on: in 1.0 a reserved word and the count of access descriptors; in 1.1 their size, their count, where they begin, and reserved words
abbrev pub header_end : Version → ℕ → List ℕ
header_end V10 count = little_bytes 4 0 ++ little_bytes 4 count
header_end V11 count =
    little_bytes 4 16 ++ little_bytes 4 count ++ little_bytes 4 48 ++ little_bytes 8 0
    ++ little_bytes 4 0

abbrev pub header_text : Version → HeaderFields → ℕ → List ℕ
header_text version h count =
    little_bytes 2 h.sender ++ little_bytes 2 h.attributes ++ little_bytes 4 h.flags
    ++ little_bytes 8 h.handle ++ little_bytes 8 h.tag
    ++ header_end version count

-- an access descriptor that points at this composite descriptor
abbrev pub access_text : ℕ → Endpoint → List ℕ
access_text composite e =
    little_bytes 2 e.partition ++ (e.permissions ∷ 0 ∷ []) ++ little_bytes 4 composite
    ++ little_bytes 8 0

abbrev pub accesses_text : ℕ → List Endpoint → List ℕ
accesses_text composite [] = []
accesses_text composite (e ∷ es) = access_text composite e ++ accesses_text composite es

abbrev pub composite_text : ℕ → ℕ → List ℕ
composite_text total count = little_bytes 4 total ++ little_bytes 4 count ++ little_bytes 8 0

-- a range as it stands in a descriptor: an address in bytes, and a count of pages
pub record RangeFields : Type 0 where
  pub address : ℕ
  pub count : ℕ

abbrev pub range_text : RangeFields → List ℕ
range_text r = little_bytes 8 r.address ++ little_bytes 4 r.count ++ little_bytes 4 0

abbrev pub ranges_text : List RangeFields → List ℕ
ranges_text [] = []
ranges_text (r ∷ rs) = range_text r ++ ranges_text rs

-- ---- the descriptors

pub record SendFields : Type 0 where
  pub header : HeaderFields
  pub receivers : List Endpoint
  pub total : ℕ
  pub ranges : List RangeFields

unfoldable pub send_text : Version → SendFields → List ℕ
send_text version f =
    header_text version f.header (length f.receivers)
    ++ accesses_text (header_size version + 16 * length f.receivers) f.receivers
    ++ composite_text f.total (length f.ranges)
    ++ ranges_text f.ranges

pub record RetrieveFields : Type 0 where
  pub header : HeaderFields
  pub endpoint : Endpoint

unfoldable pub retrieve_text : Version → RetrieveFields → List ℕ
retrieve_text version f = header_text version f.header 1 ++ access_text 0 f.endpoint

pub record RelinquishFields : Type 0 where
  pub handle : ℕ
  pub flags : ℕ
  pub endpoint : ℕ

-- of one endpoint
unfoldable pub relinquish_text : RelinquishFields → List ℕ
relinquish_text f =
    little_bytes 8 f.handle ++ little_bytes 4 f.flags ++ little_bytes 4 1
    ++ little_bytes 2 f.endpoint

-- ---- the response

abbrev pub range_of : PageRun → RangeFields
range_of run = record { address = 4096 * run.first; count = run.count }

abbrev pub runs_text : List PageRun → List ℕ
runs_text [] = []
runs_text (run ∷ runs) = range_text (range_of run) ++ runs_text runs

abbrev pub response_header : Response → HeaderFields
response_header r = record {
  sender = r.sender;
  attributes = 0x2f;
  flags = kind_bits r.kind;
  handle = r.handle;
  tag = r.tag;
}

unfoldable pub response_text : Version → Response → List ℕ
response_text version r =
    header_text version (response_header r) 1
    ++ access_text (header_size version + 16) r.endpoint
    ++ composite_text (pages_in r.ranges) (length r.ranges)
    ++ runs_text r.ranges
