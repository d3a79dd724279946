-- The rules of a send, part by part.
use Rattle.std.specs.Prelude.{◌≡◌, ℕ, ◌+◌, ◌%◌, Bool, true, ◌&&◌, ◌==◌, nat_le, List}
use Rattle.std.specs.Iterator.{YieldsFirst}
use Rattle.std.specs.Iterator.Runs.{YieldsInOrder}
use Rattle.base.specs.declared.partition.Version.{Version}
use Rattle.base.specs.Pages.{PageRun, are_disjoint}
use Rattle.base.specs.Descriptors.Send.{Endpoint, u32_at, u64_at, pages_in, array_at, receiver_count, composite_at, range_count, are_accesses, endpoints_at, are_ranges, ranges_at, ranges_of, is_composite}

-- the access descriptors keep their rules
abbrev pub has_receivers : Version → List ℕ → Bool
has_receivers version bytes =
    are_accesses (receiver_count bytes) bytes (composite_at version bytes) (array_at version bytes)

abbrev pub receivers_of : Version → List ℕ → List Endpoint
receivers_of version bytes = endpoints_at (receiver_count bytes) bytes (array_at version bytes)

-- as many access descriptors from an offset on keep their rules, and name these endpoints
abbrev pub AreEndpoints : ℕ → List ℕ → ℕ → ℕ → List Endpoint → Type 0
AreEndpoints count bytes composite at v =
    (are_accesses count bytes composite at ≡ true) × (v ≡ endpoints_at count bytes at)

-- the access descriptors keep their rules, and name these receivers
abbrev pub SpellsReceivers : Version → List ℕ → List Endpoint → Type 0
SpellsReceivers version bytes v =
    (has_receivers version bytes ≡ true) × (v ≡ receivers_of version bytes)

-- as many ranges from an offset on keep their rules, and have these pages
abbrev pub AreRanges : ℕ → List ℕ → ℕ → List PageRun → Type 0
AreRanges count bytes at v = (are_ranges count bytes at ≡ true) × (v ≡ ranges_at count bytes at)

-- the ranges and the composite descriptor before them keep their rules
abbrev pub has_memory : Version → List ℕ → Bool
has_memory version bytes =
    are_ranges (range_count version bytes) bytes (composite_at version bytes + 16)
    && are_disjoint (ranges_of version bytes)
    && is_composite version bytes

-- the ranges and the composite descriptor keep their rules, and have these pages
abbrev pub SpellsMemory : Version → List ℕ → List PageRun → Type 0
SpellsMemory version bytes v = (has_memory version bytes ≡ true) × (v ≡ ranges_of version bytes)

-- ranges that are still to come yield the first of them, and keep the others
abbrev pub YieldsRanges : Type 0
YieldsRanges = YieldsInOrder (YieldsFirst {A = PageRun} (λ ranges. ranges)) (λ ranges. ranges)

-- of the composite descriptor at an offset, with these ranges: a reserved word, and a total that is
-- the sum of the ranges' pages and at most 262,144 (1 GB)
abbrev pub is_composite_of : List ℕ → ℕ → List PageRun → Bool
is_composite_of bytes at ranges =
    (at % 16 == 0)
    && (u64_at bytes (at + 8) == 0)
    && (pages_in ranges == u32_at bytes at)
    && nat_le (pages_in ranges) 262144
