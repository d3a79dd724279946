-- Bytes whose parts follow each other without gaps: a header, access descriptors, a composite descriptor and its ranges.
use Rattle.std.proofs.Common.{◌≡◌, ℕ, ◌+◌, ◌*◌, ◌%◌, ◌^◌, ◌<◌, ◌≤◌, true, List, [], ◌∷◌, ◌++◌, length, drop, slice_index, refl, sym, ap, ap₂, ◌∙◌, eq-eqb, arith, length-append, append_assoc}
use Rattle.std.specs.List.{list_all}
use Rattle.std.proofs.lemmas.Bool.{le-leb}
use Rattle.std.proofs.lemmas.List.{append-nil}
use Rattle.byteorder.specs.Numbers.{little_number-reads_back}
use Rattle.base.specs.declared.partition.Version.{Version}
use Rattle.base.specs.declared.partition.Version.TheVariants.{V10, V11}
use Rattle.base.specs.Descriptors.Send.{Endpoint, u16_at, u32_at, u64_at, header_size, array_at, receiver_count, composite_at, range_count, ranges_of, ranges_at, pages_in, is_access, are_accesses, endpoints_at, are_ranges, has_layout, is_rest_of_header, is_composite}
use Rattle.base.specs.Descriptors.Permissions.{are_permissions}
use Rattle.base.specs.Descriptors.Encoding.{HeaderFields, RangeFields, header_text, accesses_text, composite_text, ranges_text}
use Rattle.descw.specs.Fields.{are_range_fields, runs_of}
use Rattle.descw.specs.Inside.{AreIdentifiers}
use Rattle.base.proofs.Booleans.{and_true}
use Rattle.descw.proofs.Reading.{behind, byte_behind, u16_here, u32_here, u32_behind, u64_behind, is_access-text}
use Rattle.descw.proofs.Arrays.{are_accesses-text, endpoints_at-text, accesses-end, are_ranges-text, ranges_at-text, length-accesses_text, length-ranges_text}
use Rattle.descw.proofs.Header.{count-text, array-text, rest-text, behind-header, length-header_text, sender-text, attributes-text, flags-text, handle-text, tag-text}

-- the parts in their order
abbrev pub composite_for : Version → List Endpoint → ℕ
composite_for version es = header_size version + 16 * length es

abbrev pub behind_accesses : ℕ → List RangeFields → List ℕ
behind_accesses total rs = composite_text total (length rs) ++ (ranges_text rs ++ [])

abbrev pub behind_header : Version → List Endpoint → ℕ → List RangeFields → List ℕ
behind_header version es total rs = accesses_text (composite_for version es) es ++ behind_accesses total rs

pub regroup : (a b c d : List ℕ) → a ++ b ++ c ++ d ≡ a ++ (b ++ (c ++ (d ++ [])))
regroup a b c d = simp (append_assoc, append-nil)

pub in_order : (version : Version) (h : HeaderFields) (es : List Endpoint) (total : ℕ) (rs : List RangeFields)
    → header_text version h (length es) ++ accesses_text (composite_for version es) es ++ composite_text total (length rs) ++ ranges_text rs
    ≡ header_text version h (length es) ++ behind_header version es total rs
in_order version h es total rs =
    regroup (header_text version h (length es)) (accesses_text (composite_for version es) es) (composite_text total (length rs)) (ranges_text rs)

header_aligned : (version : Version) → header_size version % 16 ≡ 0
header_aligned V10 = refl
header_aligned V11 = refl

header_small : (version : Version) → header_size version ≤ 48
header_small V10 = omega arith
header_small V11 = omega arith

module _ (version : Version) (h : HeaderFields) (e : Endpoint) (es : List Endpoint) (total : ℕ) (rs : List RangeFields)
    (bytes : List ℕ) (parts : bytes ≡ header_text version h (length (e ∷ es)) ++ behind_header version (e ∷ es) total rs)
    (few_receivers : length (e ∷ es) ≤ 8) (few_ranges : length rs ≤ 512) where
  pub len : length bytes ≡ header_size version + 16 * length (e ∷ es) + 16 + 16 * length rs
  len =
      let header = length-header_text version h (length (e ∷ es)) in
      let accesses = length-accesses_text (composite_for version (e ∷ es)) (e ∷ es) in
      let ranges = length-ranges_text rs in
      let all = length-append (header_text version h (length (e ∷ es))) (behind_header version (e ∷ es) total rs) in
      let behind_it = length-append (accesses_text (composite_for version (e ∷ es)) (e ∷ es)) (behind_accesses total rs) in
      let last = length-append (ranges_text rs) [] in
      let same = ap length parts in
      omega (arith, header, accesses, ranges, all, behind_it, last, same)

  pub count : receiver_count bytes ≡ length (e ∷ es)
  count = ap receiver_count parts ∙ count-text version h (length (e ∷ es)) _ (omega arith)

  pub array : array_at version bytes ≡ header_size version
  array = ap (array_at version) parts ∙ array-text version h (length (e ∷ es)) _

  pub rest_of_header : is_rest_of_header version bytes ≡ true
  rest_of_header = ap (is_rest_of_header version) parts ∙ rest-text version h (length (e ∷ es)) _

  -- what stands behind the header, and behind the access descriptors
  at_accesses : drop (header_size version) bytes ≡ behind_header version (e ∷ es) total rs
  at_accesses = ap (drop (header_size version)) parts ∙ behind-header version h (length (e ∷ es)) _

  at_composite : drop (composite_for version (e ∷ es)) bytes ≡ behind_accesses total rs
  at_composite = accesses-end (composite_for version (e ∷ es)) (e ∷ es) bytes (behind_accesses total rs) (header_size version) at_accesses

  at_ranges : drop (composite_for version (e ∷ es) + 16) bytes ≡ ranges_text rs ++ []
  at_ranges = behind bytes (behind_accesses total rs) (composite_for version (e ∷ es)) at_composite 16

  fits : composite_for version (e ∷ es) < 2 ^ 32
  fits = let small = header_small version in omega (arith, small)

  pub composite : composite_at version bytes ≡ composite_for version (e ∷ es)
  composite =
      ap (λ at. u32_at bytes (at + 4)) array
      ∙ u32_behind bytes (behind_header version (e ∷ es) total rs) (header_size version) at_accesses 4
      ∙ little_number-reads_back 4 (composite_for version (e ∷ es)) [] fits

  pub ranges : range_count version bytes ≡ length rs
  ranges =
      ap (λ at. u32_at bytes (at + 4)) composite
      ∙ u32_behind bytes (behind_accesses total rs) (composite_for version (e ∷ es)) at_composite 4
      ∙ little_number-reads_back 4 (length rs) [] (omega arith)

  pub total_of : total < 2 ^ 32 → u32_at bytes (composite_at version bytes) ≡ total
  total_of small =
      ap (u32_at bytes) composite
      ∙ u32_here bytes (behind_accesses total rs) (composite_for version (e ∷ es)) at_composite
      ∙ little_number-reads_back 4 total [] small

  reserved : u64_at bytes (composite_at version bytes + 8) ≡ 0
  reserved =
      ap (λ at. u64_at bytes (at + 8)) composite
      ∙ u64_behind bytes (behind_accesses total rs) (composite_for version (e ∷ es)) at_composite 8
      ∙ little_number-reads_back 8 0 [] (omega arith)

  pub laid_out : 1 ≤ length rs → has_layout version bytes ≡ true
  unfolding has_layout
  laid_out some =
      let l = len in
      let c = count in
      let a = array in
      let m = composite in
      let r = ranges in
      let header = le-leb (header_size version) (length bytes) (omega arith) in
      let some_receivers = le-leb 1 (receiver_count bytes) (omega arith) in
      let at_most_8 = le-leb (receiver_count bytes) 8 (omega arith) in
      let behind_it = le-leb (header_size version) (array_at version bytes) (omega arith) in
      let before_composite = le-leb (array_at version bytes + 16 * receiver_count bytes) (composite_at version bytes) (omega arith) in
      let some_ranges = le-leb 1 (range_count version bytes) (omega arith) in
      let at_most_512 = le-leb (range_count version bytes) 512 (omega arith) in
      let end = eq-eqb (length bytes) (composite_at version bytes + 16 + 16 * range_count version bytes) (omega arith) in
      and_true _ _ (and_true _ _ (and_true _ _ (and_true _ _ (and_true _ _ (and_true _ _ (and_true _ _ header some_receivers) at_most_8) behind_it) before_composite) some_ranges) at_most_512) end

  pub accesses : list_all (λ e. are_permissions e.permissions) (e ∷ es) ≡ true → are_accesses (receiver_count bytes) bytes (composite_at version bytes) (array_at version bytes) ≡ true
  accesses permitted =
      rw (composite, count, array) (are_accesses-text (composite_for version (e ∷ es)) (e ∷ es) bytes (behind_accesses total rs) (header_size version) fits permitted at_accesses)

  pub endpoints : AreIdentifiers (e ∷ es) → endpoints_at (receiver_count bytes) bytes (array_at version bytes) ≡ e ∷ es
  endpoints identifiers =
      ap₂ (λ n at. endpoints_at n bytes at) count array
      ∙ endpoints_at-text (composite_for version (e ∷ es)) (e ∷ es) bytes (behind_accesses total rs) (header_size version) identifiers at_accesses

  pub ranges_valid : list_all are_range_fields rs ≡ true → are_ranges (range_count version bytes) bytes (composite_at version bytes + 16) ≡ true
  ranges_valid valid =
      ap₂ (λ n at. are_ranges n bytes (at + 16)) ranges composite
      ∙ are_ranges-text rs bytes [] (composite_for version (e ∷ es) + 16) valid at_ranges

  pub ranges_read : list_all are_range_fields rs ≡ true → ranges_of version bytes ≡ runs_of rs
  ranges_read valid =
      ap₂ (λ n at. ranges_at n bytes (at + 16)) ranges composite
      ∙ ranges_at-text rs bytes [] (composite_for version (e ∷ es) + 16) valid at_ranges

  pub is_composite-text : list_all are_range_fields rs ≡ true → pages_in (runs_of rs) ≡ total → total ≤ 262144 → is_composite version bytes ≡ true
  unfolding is_composite
  is_composite-text valid sum few =
      let m = composite in
      let start = header_aligned version in
      let read = ap pages_in (ranges_read valid) ∙ sum in
      let aligned = eq-eqb (composite_at version bytes % 16) 0 (omega arith) in
      let zeros = eq-eqb (u64_at bytes (composite_at version bytes + 8)) 0 reserved in
      let is_sum = eq-eqb (pages_in (ranges_of version bytes)) (u32_at bytes (composite_at version bytes)) (read ∙ sym (total_of (omega arith))) in
      let at_most = le-leb (pages_in (ranges_of version bytes)) 262144 (rw read few) in
      and_true _ _ (and_true _ _ (and_true _ _ aligned zeros) is_sum) at_most

  pub sender : h.sender < 2 ^ 16 → u16_at bytes 0 ≡ h.sender
  sender fits = ap (λ b. u16_at b 0) parts ∙ sender-text version h (length (e ∷ es)) _ fits

  pub attributes : h.attributes < 2 ^ 16 → u16_at bytes 2 ≡ h.attributes
  attributes fits = ap (λ b. u16_at b 2) parts ∙ attributes-text version h (length (e ∷ es)) _ fits

  pub flags : h.flags < 2 ^ 32 → u32_at bytes 4 ≡ h.flags
  flags fits = ap (λ b. u32_at b 4) parts ∙ flags-text version h (length (e ∷ es)) _ fits

  pub handle : h.handle < 2 ^ 64 → u64_at bytes 8 ≡ h.handle
  handle fits = ap (λ b. u64_at b 8) parts ∙ handle-text version h (length (e ∷ es)) _ fits

  pub tag : h.tag < 2 ^ 64 → u64_at bytes 16 ≡ h.tag
  tag fits = ap (λ b. u64_at b 16) parts ∙ tag-text version h (length (e ∷ es)) _ fits

  pub first_access : are_permissions e.permissions ≡ true → is_access bytes (composite_for version (e ∷ es)) (header_size version) ≡ true
  first_access permitted =
      is_access-text (composite_for version (e ∷ es)) e bytes (accesses_text (composite_for version (e ∷ es)) es ++ behind_accesses total rs) (header_size version) at_accesses fits permitted

  pub first_permissions : slice_index bytes (header_size version + 2) ≡ e.permissions
  first_permissions = byte_behind bytes (behind_header version (e ∷ es) total rs) (header_size version) at_accesses 2

  pub first_partition : e.partition < 2 ^ 16 → u16_at bytes (header_size version) ≡ e.partition
  first_partition identifier =
      u16_here bytes (behind_header version (e ∷ es) total rs) (header_size version) at_accesses ∙ little_number-reads_back 2 e.partition [] identifier
