-- The rules of the fields of descriptors, and the values that their texts spell (FF-A 1.1 and 1.0, "Memory transaction descriptor", "FFA_MEM_RETRIEVE_REQ", "FFA_MEM_RETRIEVE_RESP", "Descriptor to relinquish a memory region").
use Rattle.std.specs.Prelude.{◌+◌, ◌/◌, ◌%◌, ◌^◌, Bool, ◌&&◌, ◌==◌, nat_le, List, length, map}
use Rattle.std.specs.List.{list_all}
use Rattle.base.specs.Pages.{PageRun, are_disjoint}
use Rattle.base.specs.Descriptors.Send.{Send, are_clear_flags, orders_clear, pages_in}
use Rattle.base.specs.Descriptors.Permissions.{are_attributes, are_permissions}
use Rattle.base.specs.Descriptors.Retrieve.{Retrieve, are_flags, kind_in}
use Rattle.base.specs.Descriptors.Relinquish.{Relinquish}
use Rattle.base.specs.Descriptors.Response.{Response, are_granted}
use Rattle.base.specs.Descriptors.Encoding.{RangeFields, SendFields, RetrieveFields, RelinquishFields}

-- ---- the ranges

-- whole pages, at least one, within input addresses of 39 bits
abbrev pub are_range_fields : RangeFields → Bool
are_range_fields r =
    (r.address % 4096 == 0) && nat_le 1 r.count && nat_le (r.address / 4096 + r.count) (2 ^ 27)

-- the pages of a range
abbrev pub run_of : RangeFields → PageRun
run_of r = record { first = r.address / 4096; count = r.count }

abbrev pub runs_of : List RangeFields → List PageRun
runs_of ranges = map run_of ranges

-- ---- the rules

-- Attributes that a header may have, no flag but one that orders a clear, and no handle; 1 to 8 receivers with permissions that each may have; 1 to 512 ranges that share no page, and a total that is the sum of their pages and at most 262,144 (1 GB).
unfoldable pub are_send_fields : SendFields → Bool
are_send_fields f =
    are_attributes f.header.attributes
    && are_clear_flags f.header.flags
    && (f.header.handle == 0)
    && nat_le 1 (length f.receivers) && nat_le (length f.receivers) 8
    && list_all (λ e. are_permissions e.permissions) f.receivers
    && nat_le 1 (length f.ranges) && nat_le (length f.ranges) 512
    && list_all are_range_fields f.ranges
    && are_disjoint (runs_of f.ranges)
    && (pages_in (runs_of f.ranges) == f.total)
    && nat_le f.total 262144

-- Attributes that a header may have, no flag but the kind's and bit 10, and permissions that a borrower may have.
unfoldable pub are_retrieve_fields : RetrieveFields → Bool
are_retrieve_fields f =
    are_attributes f.header.attributes
    && are_flags f.header.flags
    && are_permissions f.endpoint.permissions

-- No flag but one that orders a clear.
unfoldable pub are_relinquish_fields : RelinquishFields → Bool
are_relinquish_fields f = are_clear_flags f.flags

-- Permissions that are granted; 1 to 512 ranges that share no page, of at most 262,144 pages together.
unfoldable pub are_response_fields : Response → Bool
are_response_fields r =
    are_granted r.endpoint.permissions
    && nat_le 1 (length r.ranges) && nat_le (length r.ranges) 512
    && are_disjoint r.ranges
    && nat_le (pages_in r.ranges) 262144

-- ---- what is spelled

abbrev pub sent_by : SendFields → Send
sent_by f =
    record {
      sender = f.header.sender;
      attributes = f.header.attributes;
      clears = orders_clear f.header.flags;
      tag = f.header.tag;
      receivers = f.receivers;
      ranges = runs_of f.ranges;
    }

abbrev pub asked_by : RetrieveFields → Retrieve
asked_by f =
    record {
      sender = f.header.sender;
      attributes = f.header.attributes;
      kind = kind_in f.header.flags;
      bypass = f.header.flags / 1024 % 2 == 1;
      handle = f.header.handle;
      tag = f.header.tag;
      endpoint = f.endpoint;
    }

abbrev pub given_up_by : RelinquishFields → Relinquish
given_up_by f =
    record { handle = f.handle; clears = orders_clear f.flags; endpoint = f.endpoint }
