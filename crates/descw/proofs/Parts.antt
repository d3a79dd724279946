-- Each part of a response is the text of what is read from it.
use Rattle.std.proofs.Common.{◌≡◌, ℕ, zero, suc, ◌+◌, ◌*◌, ◌/◌, ◌%◌, ◌<◌, ◌≤◌, true, List, ◌∷◌, ◌++◌, length, drop, slice_index, refl, ap, ◌∙◌, arith}
use Rattle.std.proofs.lemmas.Bool.{eqb-true}
use Rattle.byteorder.specs.Endian.{little_bytes}
use Rattle.base.specs.declared.partition.Version.{Version}
use Rattle.base.specs.declared.partition.Version.TheVariants.{V10, V11}
use Rattle.base.specs.Pages.{PageRun}
use Rattle.base.specs.Descriptors.Send.{u16_at, u32_at, u64_at, header_size, array_at, receiver_count, is_rest_of_header, is_access, is_range, are_ranges, ranges_at}
use Rattle.base.specs.Descriptors.Encoding.{HeaderFields, header_text, header_end, access_text, composite_text, range_text, range_of, runs_text}
use Rattle.base.proofs.Booleans.{left, right}
use Rattle.descw.proofs.Cuts.{byte_cut, u16_cut, u32_cut, u64_cut}

module _ (bytes : List ℕ) (small : (i : ℕ) → slice_index bytes i < 256) where
  -- ---- the header

  header_start : (h : HeaderFields) → 24 ≤ length bytes → u16_at bytes 0 ≡ h.sender → u16_at bytes 2 ≡ h.attributes → u32_at bytes 4 ≡ h.flags → u64_at bytes 8 ≡ h.handle → u64_at bytes 16 ≡ h.tag
      → bytes ≡ little_bytes 2 h.sender ++ little_bytes 2 h.attributes ++ little_bytes 4 h.flags ++ little_bytes 8 h.handle ++ little_bytes 8 h.tag ++ drop 24 bytes
  header_start h inside sender attributes flags handle tag =
      let c0 = u16_cut bytes small 0 2 h.sender refl (omega arith) sender in
      let c2 = u16_cut bytes small 2 4 h.attributes refl (omega arith) attributes in
      let c4 = u32_cut bytes small 4 8 h.flags refl (omega arith) flags in
      let c8 = u64_cut bytes small 8 16 h.handle refl (omega arith) handle in
      let c16 = u64_cut bytes small 16 24 h.tag refl (omega arith) tag in
      c0 ∙ ap (λ r. little_bytes 2 h.sender ++ r) (c2 ∙ ap (λ r. little_bytes 2 h.attributes ++ r) (c4 ∙ ap (λ r. little_bytes 4 h.flags ++ r) (c8 ∙ ap (λ r. little_bytes 8 h.handle ++ r) c16)))

  end_1_0 : 32 ≤ length bytes → u32_at bytes 24 ≡ 0 → u32_at bytes 28 ≡ 1 → drop 24 bytes ≡ header_end V10 1 ++ drop 32 bytes
  end_1_0 inside zeros one =
      let c24 = u32_cut bytes small 24 28 0 refl (omega arith) zeros in
      let c28 = u32_cut bytes small 28 32 1 refl inside one in
      c24 ∙ ap (λ r. little_bytes 4 0 ++ r) c28

  end_1_1 : 48 ≤ length bytes → u32_at bytes 24 ≡ 16 → u32_at bytes 28 ≡ 1 → u32_at bytes 32 ≡ 48 → u64_at bytes 36 ≡ 0 → u32_at bytes 44 ≡ 0 → drop 24 bytes ≡ header_end V11 1 ++ drop 48 bytes
  end_1_1 inside size one array zeros last =
      let c24 = u32_cut bytes small 24 28 16 refl (omega arith) size in
      let c28 = u32_cut bytes small 28 32 1 refl (omega arith) one in
      let c32 = u32_cut bytes small 32 36 48 refl (omega arith) array in
      let c36 = u64_cut bytes small 36 44 0 refl (omega arith) zeros in
      let c44 = u32_cut bytes small 44 48 0 refl inside last in
      c24 ∙ ap (λ r. little_bytes 4 16 ++ r) (c28 ∙ ap (λ r. little_bytes 4 1 ++ r) (c32 ∙ ap (λ r. little_bytes 4 48 ++ r) (c36 ∙ ap (λ r. little_bytes 8 0 ++ r) c44)))

  header_rest : (version : Version) → header_size version ≤ length bytes → is_rest_of_header version bytes ≡ true → receiver_count bytes ≡ 1 → array_at version bytes ≡ header_size version
      → drop 24 bytes ≡ header_end version 1 ++ drop (header_size version) bytes
  header_rest V10 inside rest one array = end_1_0 inside (eqb-true (u32_at bytes 24) 0 rest) one
  header_rest V11 inside rest one array =
      let r1 = left _ _ rest in
      let r2 = left _ _ r1 in
      let size = eqb-true (u32_at bytes 24) 16 (left _ _ r2) in
      let zeros = eqb-true (u64_at bytes 36) 0 (right _ _ r1) in
      let last = eqb-true (u32_at bytes 44) 0 (right _ _ rest) in
      end_1_1 inside size one array zeros last

  pub header_cut : (version : Version) (h : HeaderFields) → header_size version ≤ length bytes → u16_at bytes 0 ≡ h.sender → u16_at bytes 2 ≡ h.attributes → u32_at bytes 4 ≡ h.flags → u64_at bytes 8 ≡ h.handle → u64_at bytes 16 ≡ h.tag
      → is_rest_of_header version bytes ≡ true → receiver_count bytes ≡ 1 → array_at version bytes ≡ header_size version
      → bytes ≡ header_text version h 1 ++ drop (header_size version) bytes
  header_cut version h inside sender attributes flags handle tag rest one array =
      let behind = header_rest version inside rest one array in
      let some : 24 ≤ length bytes = long version inside in
      header_start h some sender attributes flags handle tag
      ∙ ap (λ r. little_bytes 2 h.sender ++ little_bytes 2 h.attributes ++ little_bytes 4 h.flags ++ little_bytes 8 h.handle ++ little_bytes 8 h.tag ++ r) behind
    where
      long : (v : Version) → header_size v ≤ length bytes → 24 ≤ length bytes
      long V10 le = omega arith
      long V11 le = omega arith

  -- ---- the parts of 16 bytes

  access_fields_cut : (composite at next : ℕ) → next ≡ at + 16 → next ≤ length bytes → slice_index bytes (at + 3) ≡ 0 → u32_at bytes (at + 4) ≡ composite → u64_at bytes (at + 8) ≡ 0
      → drop at bytes ≡ access_text composite (record { partition = u16_at bytes at; permissions = slice_index bytes (at + 2) }) ++ drop next bytes
  access_fields_cut composite at next is inside reserved points zeros =
      let c0 = u16_cut bytes small at (at + 2) (u16_at bytes at) refl (omega arith) refl in
      let c2 = byte_cut bytes small (at + 2) (at + 3) (slice_index bytes (at + 2)) (omega arith) (omega arith) refl in
      let c3 = byte_cut bytes small (at + 3) (at + 4) 0 (omega arith) (omega arith) reserved in
      let c4 = u32_cut bytes small (at + 4) (at + 8) composite (omega arith) (omega arith) points in
      let c8 = u64_cut bytes small (at + 8) next 0 (omega arith) inside zeros in
      c0 ∙ ap (λ r. little_bytes 2 (u16_at bytes at) ++ r) (c2 ∙ ap (λ r. slice_index bytes (at + 2) ∷ r) (c3 ∙ ap (λ r. 0 ∷ r) (c4 ∙ ap (λ r. little_bytes 4 composite ++ r) c8)))

  pub access_cut : (composite at next : ℕ) → next ≡ at + 16 → next ≤ length bytes → is_access bytes composite at ≡ true
      → drop at bytes ≡ access_text composite (record { partition = u16_at bytes at; permissions = slice_index bytes (at + 2) }) ++ drop next bytes
  unfolding is_access
  access_cut composite at next is inside keeps =
      let k1 = left _ _ keeps in
      let k2 = left _ _ k1 in
      let reserved = eqb-true (slice_index bytes (at + 3)) 0 (right _ _ k2) in
      let points = eqb-true (u32_at bytes (at + 4)) composite (right _ _ k1) in
      let zeros = eqb-true (u64_at bytes (at + 8)) 0 (right _ _ keeps) in
      access_fields_cut composite at next is inside reserved points zeros

  pub composite_cut : (total count at next : ℕ) → next ≡ at + 16 → next ≤ length bytes → u32_at bytes at ≡ total → u32_at bytes (at + 4) ≡ count → u64_at bytes (at + 8) ≡ 0
      → drop at bytes ≡ composite_text total count ++ drop next bytes
  composite_cut total count at next is inside is_total is_count zeros =
      let c0 = u32_cut bytes small at (at + 4) total refl (omega arith) is_total in
      let c4 = u32_cut bytes small (at + 4) (at + 8) count (omega arith) (omega arith) is_count in
      let c8 = u64_cut bytes small (at + 8) next 0 (omega arith) inside zeros in
      c0 ∙ ap (λ r. little_bytes 4 total ++ r) (c4 ∙ ap (λ r. little_bytes 4 count ++ r) c8)

  range_fields_cut : (at : ℕ) → at + 16 ≤ length bytes → u64_at bytes at % 4096 ≡ 0 → u32_at bytes (at + 12) ≡ 0
      → drop at bytes ≡ range_text (range_of (record { first = u64_at bytes at / 4096; count = u32_at bytes (at + 8) })) ++ drop (at + 16) bytes
  range_fields_cut at inside whole zeros =
      let address : u64_at bytes at ≡ 4096 * (u64_at bytes at / 4096) = omega arith in
      let c0 = u64_cut bytes small at (at + 8) (4096 * (u64_at bytes at / 4096)) refl (omega arith) address in
      let c8 = u32_cut bytes small (at + 8) (at + 12) (u32_at bytes (at + 8)) (omega arith) (omega arith) refl in
      let c12 = u32_cut bytes small (at + 12) (at + 16) 0 (omega arith) inside zeros in
      c0 ∙ ap (λ r. little_bytes 8 (4096 * (u64_at bytes at / 4096)) ++ r) (c8 ∙ ap (λ r. little_bytes 4 (u32_at bytes (at + 8)) ++ r) c12)

  range_cut : (at : ℕ) → at + 16 ≤ length bytes → is_range bytes at ≡ true
      → drop at bytes ≡ range_text (range_of (record { first = u64_at bytes at / 4096; count = u32_at bytes (at + 8) })) ++ drop (at + 16) bytes
  unfolding is_range
  range_cut at inside keeps =
      range_fields_cut at inside (eqb-true (u64_at bytes at % 4096) 0 (left _ _ (left _ _ (left _ _ keeps)))) (eqb-true (u32_at bytes (at + 12)) 0 (right _ _ keeps))

  pub ranges_cut : (count at : ℕ) → at + 16 * count ≤ length bytes → are_ranges count bytes at ≡ true → drop at bytes ≡ runs_text (ranges_at count bytes at) ++ drop (at + 16 * count) bytes
  ranges_cut zero at inside keep =
      let same : at + 16 * zero ≡ at = omega arith in
      rw same refl
  ranges_cut (suc count) at inside keep =
      let run : PageRun = record { first = u64_at bytes at / 4096; count = u32_at bytes (at + 8) } in
      let next : at + 16 * suc count ≡ at + 16 + 16 * count = omega arith in
      let one = range_cut at (omega arith) (left _ _ keep) in
      let rest = ranges_cut count (at + 16) (omega arith) (right _ _ keep) in
      rw next (one ∙ ap (λ r. range_text (range_of run) ++ r) rest)
