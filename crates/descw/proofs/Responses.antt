-- The text of a response whose fields keep the rules spells it.
use Rattle.std.proofs.Common.{◌≡◌, ℕ, ◌+◌, ◌*◌, ◌^◌, ◌<◌, ◌≤◌, true, ◌||◌, ◌==◌, List, [], ◌∷◌, ◌++◌, length, map, refl, sym, ap, ap₂, ◌∙◌, eq-eqb, arith}
use Rattle.std.specs.List.{list_all}
use Rattle.std.proofs.lemmas.Bool.{leb-true, le-leb}
use Rattle.std.proofs.lemmas.Bool.Decides.{nat_tests}
use Rattle.std.proofs.lemmas.List.{length-map}
use Rattle.base.specs.declared.partition.Version.{Version}
use Rattle.base.specs.declared.transaction.Kind.{Kind}
use Rattle.base.specs.declared.transaction.Kind.TheVariants.{Share, Lend, Donate}
use Rattle.base.specs.Pages.{are_disjoint}
use Rattle.base.specs.Descriptors.Send.{header_size, u16_at, u32_at, array_at, receiver_count, composite_at, range_count, pages_in, ranges_of}
use Rattle.base.specs.Descriptors.Permissions.{are_permissions}
use Rattle.base.specs.Descriptors.Response.{Response, kind_bits, kind_named, has_response_layout, is_response_header, are_granted, is_response, response_of, SpellsResponse}
use Rattle.base.specs.Descriptors.Encoding.{range_of, response_header, header_text, accesses_text, composite_text, response_text}
use Rattle.descw.specs.Fields.{are_range_fields, are_response_fields}
use Rattle.descw.specs.Inside.{FitsHeader, AreRuns}
use Rattle.base.proofs.Booleans.{and_true, left, right}
use Rattle.descw.proofs.Runs.{runs_text-ranges, runs_of-ranges, are_ranges-runs}
use Rattle.descw.proofs.Order as order

granted_permitted : (p : ℕ) → are_granted p ≡ true → are_permissions p ≡ true
granted_permitted p h = grind (arith, nat_tests)

kind_small : (kind : Kind) → kind_bits kind < 2 ^ 32
kind_small Share = omega arith
kind_small Lend = omega arith
kind_small Donate = omega arith

kind_back : (kind : Kind) → kind_named (kind_bits kind) ≡ kind
kind_back Share = refl
kind_back Lend = refl
kind_back Donate = refl

is_kind : (kind : Kind) → ((kind_bits kind == 8) || (kind_bits kind == 16) || (kind_bits kind == 24)) ≡ true
is_kind Share = refl
is_kind Lend = refl
is_kind Donate = refl

-- the rules one by one
record KeepsResponse (r : Response) : Type 0 where
  granted : are_granted r.endpoint.permissions ≡ true
  some_ranges : 1 ≤ length r.ranges
  few_ranges : length r.ranges ≤ 512
  disjoint : are_disjoint r.ranges ≡ true
  few_pages : pages_in r.ranges ≤ 262144

keeps_response : (r : Response) → are_response_fields r ≡ true → KeepsResponse r
unfolding are_response_fields
keeps_response r h =
    let l1 = left _ _ h in
    let l2 = left _ _ l1 in
    let l3 = left _ _ l2 in
    record {
      granted = left _ _ l3;
      some_ranges = leb-true 1 (length r.ranges) (right _ _ l3);
      few_ranges = leb-true (length r.ranges) 512 (right _ _ l2);
      disjoint = right _ _ l1;
      few_pages = leb-true (pages_in r.ranges) 262144 (right _ _ h);
    }

module _ (version : Version) (r : Response) (bytes : List ℕ)
    (parts : bytes ≡ header_text version (response_header r) 1 ++ order.behind_header version (r.endpoint ∷ []) (pages_in r.ranges) (map range_of r.ranges))
    (fits : FitsHeader (response_header r)) (runs : AreRuns r.ranges) (k : KeepsResponse r) where
  one : length (r.endpoint ∷ []) ≤ 8
  one = omega arith

  same_length : length (map range_of r.ranges) ≡ length r.ranges
  same_length = length-map r.ranges range_of

  few : length (map range_of r.ranges) ≤ 512
  few = rw same_length k.few_ranges

  valid : list_all are_range_fields (map range_of r.ranges) ≡ true
  valid = are_ranges-runs r.ranges runs

  len : length bytes ≡ header_size version + 32 + 16 * length r.ranges
  len =
      let l = order.len version (response_header r) r.endpoint [] (pages_in r.ranges) (map range_of r.ranges) bytes parts one few in
      let s = same_length in
      omega arith

  array : array_at version bytes ≡ header_size version
  array = order.array version (response_header r) r.endpoint [] (pages_in r.ranges) (map range_of r.ranges) bytes parts one few

  count : receiver_count bytes ≡ 1
  count = order.count version (response_header r) r.endpoint [] (pages_in r.ranges) (map range_of r.ranges) bytes parts one few

  composite : composite_at version bytes ≡ header_size version + 16
  composite = order.composite version (response_header r) r.endpoint [] (pages_in r.ranges) (map range_of r.ranges) bytes parts one few

  ranges : range_count version bytes ≡ length r.ranges
  ranges = order.ranges version (response_header r) r.endpoint [] (pages_in r.ranges) (map range_of r.ranges) bytes parts one few ∙ same_length

  ranges_read : ranges_of version bytes ≡ r.ranges
  ranges_read = order.ranges_read version (response_header r) r.endpoint [] (pages_in r.ranges) (map range_of r.ranges) bytes parts one few valid ∙ runs_of-ranges r.ranges

  laid_out : has_response_layout version bytes ≡ true
  unfolding has_response_layout
  laid_out =
      let l = len in
      let n = ranges in
      let some_ranges = k.some_ranges in
      let few_ranges = k.few_ranges in
      let header = le-leb (header_size version) (length bytes) (omega arith) in
      let is_one = eq-eqb (receiver_count bytes) 1 count in
      let behind_it = eq-eqb (array_at version bytes) (header_size version) array in
      let after_it = eq-eqb (composite_at version bytes) (header_size version + 16) composite in
      let some = le-leb 1 (range_count version bytes) (omega arith) in
      let at_most_512 = le-leb (range_count version bytes) 512 (omega arith) in
      let end = eq-eqb (length bytes) (header_size version + 32 + 16 * range_count version bytes) (omega arith) in
      and_true _ _ (and_true _ _ (and_true _ _ (and_true _ _ (and_true _ _ (and_true _ _ header is_one) behind_it) after_it) some) at_most_512) end

  attributes : u16_at bytes 2 ≡ 0x2f
  attributes = order.attributes version (response_header r) r.endpoint [] (pages_in r.ranges) (map range_of r.ranges) bytes parts one few (omega arith)

  flags : u32_at bytes 4 ≡ kind_bits r.kind
  flags = order.flags version (response_header r) r.endpoint [] (pages_in r.ranges) (map range_of r.ranges) bytes parts one few (kind_small r.kind)

  is_header : is_response_header version bytes ≡ true
  unfolding is_response_header
  is_header =
      let rest = order.rest_of_header version (response_header r) r.endpoint [] (pages_in r.ranges) (map range_of r.ranges) bytes parts one few in
      and_true _ _ (and_true _ _ (eq-eqb (u16_at bytes 2) 0x2f attributes) (rw flags (is_kind r.kind))) rest

  is_response-text : is_response version bytes ≡ true
  unfolding is_response
  is_response-text =
      let permissions = order.first_permissions version (response_header r) r.endpoint [] (pages_in r.ranges) (map range_of r.ranges) bytes parts one few in
      let access = order.first_access version (response_header r) r.endpoint [] (pages_in r.ranges) (map range_of r.ranges) bytes parts one few (granted_permitted r.endpoint.permissions k.granted) in
      let at_ranges = order.ranges_valid version (response_header r) r.endpoint [] (pages_in r.ranges) (map range_of r.ranges) bytes parts one few valid in
      let here : composite_at version bytes + 16 ≡ header_size version + 32 = let m = composite in omega arith in
      let ranges_here = rw here at at_ranges in
      let sum = ap pages_in (runs_of-ranges r.ranges) in
      let is_composite = order.is_composite-text version (response_header r) r.endpoint [] (pages_in r.ranges) (map range_of r.ranges) bytes parts one few valid sum k.few_pages in
      and_true _ _ (and_true _ _ (and_true _ _ (and_true _ _ (and_true _ _ (and_true _ _ laid_out is_header) (rw permissions k.granted)) access) ranges_here) (rw ranges_read k.disjoint)) is_composite

  response_of-text : r.endpoint.partition < 2 ^ 16 → r ≡ response_of version bytes
  unfolding response_of
  response_of-text identifier =
      let sender = order.sender version (response_header r) r.endpoint [] (pages_in r.ranges) (map range_of r.ranges) bytes parts one few fits.sender in
      let handle = order.handle version (response_header r) r.endpoint [] (pages_in r.ranges) (map range_of r.ranges) bytes parts one few fits.handle in
      let tag = order.tag version (response_header r) r.endpoint [] (pages_in r.ranges) (map range_of r.ranges) bytes parts one few fits.tag in
      let partition = order.first_partition version (response_header r) r.endpoint [] (pages_in r.ranges) (map range_of r.ranges) bytes parts one few identifier in
      let permissions = order.first_permissions version (response_header r) r.endpoint [] (pages_in r.ranges) (map range_of r.ranges) bytes parts one few in
      rw (sender, flags, kind_back r.kind, handle, tag, partition, permissions, ranges_read) refl

pub response_text-spells : (version : Version) (r : Response) (bytes : List ℕ) → bytes ≡ response_text version r → FitsHeader (response_header r) → r.endpoint.partition < 2 ^ 16
    → AreRuns r.ranges → are_response_fields r ≡ true → SpellsResponse version bytes r
unfolding response_text
response_text-spells version r bytes is fits identifier runs valid =
    let start = header_text version (response_header r) 1 ++ accesses_text (header_size version + 16) (r.endpoint ∷ []) in
    let same = ap₂ (λ n xs. start ++ composite_text (pages_in r.ranges) n ++ xs) (sym (length-map r.ranges range_of)) (runs_text-ranges r.ranges) in
    let parts = is ∙ same ∙ order.in_order version (response_header r) (r.endpoint ∷ []) (pages_in r.ranges) (map range_of r.ranges) in
    let k = keeps_response r valid in
    (is_response-text version r bytes parts fits runs k, response_of-text version r bytes parts fits runs k identifier)
