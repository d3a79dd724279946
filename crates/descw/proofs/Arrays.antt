-- The access descriptors and the ranges that stand in a text, one after the other, are read back.
use Rattle.std.proofs.Common.{◌≡◌, ℕ, ◌+◌, ◌*◌, ◌/◌, ◌%◌, ◌^◌, ◌<◌, ◌≤◌, true, ◌&&◌, nat_le, ◌==◌, List, [], ◌∷◌, ◌++◌, length, drop, slice_index, refl, ◌∙◌, eq-eqb, arith}
use Rattle.std.specs.List.{list_all}
use Rattle.std.proofs.lemmas.Bool.{leb-true}
use Rattle.byteorder.specs.Numbers.{little_number-reads_back}
use Rattle.base.specs.Descriptors.Send.{Endpoint, u16_at, u32_at, u64_at, are_accesses, endpoints_at, is_range, are_ranges, ranges_at}
use Rattle.base.specs.Descriptors.Permissions.{are_permissions}
use Rattle.base.specs.Descriptors.Encoding.{RangeFields, access_text, accesses_text, range_text, ranges_text}
use Rattle.descw.specs.Fields.{are_range_fields, runs_of}
use Rattle.descw.specs.Inside.{AreIdentifiers}
use Rattle.base.proofs.Booleans.{and_true, left, right}
use Rattle.descw.proofs.Reading.{behind, byte_behind, u16_here, u32_behind, u64_here, is_access-text}

pub are_accesses-text : (composite : ℕ) (es : List Endpoint) (bytes rest : List ℕ) (at : ℕ) → composite < 2 ^ 32 → list_all (λ e. are_permissions e.permissions) es ≡ true
    → drop at bytes ≡ accesses_text composite es ++ rest → are_accesses (length es) bytes composite at ≡ true
are_accesses-text composite [] bytes rest at fits permitted here = refl
are_accesses-text composite (e ∷ es) bytes rest at fits permitted here =
    let first = is_access-text composite e bytes (accesses_text composite es ++ rest) at here fits (left _ _ permitted) in
    let next = behind bytes (access_text composite e ++ (accesses_text composite es ++ rest)) at here 16 in
    and_true _ _ first (are_accesses-text composite es bytes rest (at + 16) fits (right _ _ permitted) next)

pub endpoints_at-text : (composite : ℕ) (es : List Endpoint) (bytes rest : List ℕ) (at : ℕ) → AreIdentifiers es
    → drop at bytes ≡ accesses_text composite es ++ rest → endpoints_at (length es) bytes at ≡ es
endpoints_at-text composite [] bytes rest at identifiers here = refl
endpoints_at-text composite (e ∷ es) bytes rest at identifiers here =
    let all = access_text composite e ++ (accesses_text composite es ++ rest) in
    let partition : u16_at bytes at ≡ e.partition = u16_here bytes all at here ∙ little_number-reads_back 2 e.partition [] identifiers.0 in
    let permissions : slice_index bytes (at + 2) ≡ e.permissions = byte_behind bytes all at here 2 in
    let next = behind bytes all at here 16 in
    let behind_it = endpoints_at-text composite es bytes rest (at + 16) identifiers.1 next in
    rw (partition, permissions, behind_it) refl

-- where the access descriptors end
pub accesses-end : (composite : ℕ) (es : List Endpoint) (bytes rest : List ℕ) (at : ℕ)
    → drop at bytes ≡ accesses_text composite es ++ rest → drop (at + 16 * length es) bytes ≡ rest
accesses-end composite [] bytes rest at here =
    let same : at + 16 * length {A = Endpoint} [] ≡ at = omega arith in
    rw same here
accesses-end composite (e ∷ es) bytes rest at here =
    let all = access_text composite e ++ (accesses_text composite es ++ rest) in
    let next = behind bytes all at here 16 in
    let moved : at + 16 * length (e ∷ es) ≡ at + 16 + 16 * length es = omega arith in
    rw moved (accesses-end composite es bytes rest (at + 16) next)

pub length-accesses_text : (composite : ℕ) (es : List Endpoint) → length (accesses_text composite es) ≡ 16 * length es
length-accesses_text composite [] = refl
length-accesses_text composite (e ∷ es) =
    let rest = length-accesses_text composite es in
    omega (arith, rest)

pub length-ranges_text : (rs : List RangeFields) → length (ranges_text rs) ≡ 16 * length rs
length-ranges_text [] = refl
length-ranges_text (r ∷ rs) =
    let rest = length-ranges_text rs in
    omega (arith, rest)

-- a range that keeps its rules is one of numbers that fit
fits-address : (r : RangeFields) → are_range_fields r ≡ true → r.address < 256 ^ 8
fits-address r valid =
    let low : r.address / 4096 + r.count ≤ 2 ^ 27 = leb-true (r.address / 4096 + r.count) (2 ^ 27) (right ((r.address % 4096 == 0) && nat_le 1 r.count) (nat_le (r.address / 4096 + r.count) (2 ^ 27)) valid) in
    omega arith

fits-count : (r : RangeFields) → are_range_fields r ≡ true → r.count < 256 ^ 4
fits-count r valid =
    let low : r.address / 4096 + r.count ≤ 2 ^ 27 = leb-true (r.address / 4096 + r.count) (2 ^ 27) (right ((r.address % 4096 == 0) && nat_le 1 r.count) (nat_le (r.address / 4096 + r.count) (2 ^ 27)) valid) in
    omega arith

module _ (r : RangeFields) (bytes rest : List ℕ) (at : ℕ) (valid : are_range_fields r ≡ true) (here : drop at bytes ≡ range_text r ++ rest) where
  address_of : u64_at bytes at ≡ r.address
  address_of = u64_here bytes (range_text r ++ rest) at here ∙ little_number-reads_back 8 r.address [] (fits-address r valid)

  count_of : u32_at bytes (at + 8) ≡ r.count
  count_of = u32_behind bytes (range_text r ++ rest) at here 8 ∙ little_number-reads_back 4 r.count [] (fits-count r valid)

  reserved_of : u32_at bytes (at + 12) ≡ 0
  reserved_of = u32_behind bytes (range_text r ++ rest) at here 12 ∙ little_number-reads_back 4 0 [] (omega arith)

  is_range-text : is_range bytes at ≡ true
  unfolding is_range
  is_range-text = and_true _ _ (rw (address_of, count_of) valid) (eq-eqb _ _ reserved_of)

pub are_ranges-text : (rs : List RangeFields) (bytes rest : List ℕ) (at : ℕ) → list_all are_range_fields rs ≡ true
    → drop at bytes ≡ ranges_text rs ++ rest → are_ranges (length rs) bytes at ≡ true
are_ranges-text [] bytes rest at valid here = refl
are_ranges-text (r ∷ rs) bytes rest at valid here =
    let first = is_range-text r bytes (ranges_text rs ++ rest) at (left _ _ valid) here in
    let next = behind bytes (range_text r ++ (ranges_text rs ++ rest)) at here 16 in
    and_true _ _ first (are_ranges-text rs bytes rest (at + 16) (right _ _ valid) next)

pub ranges_at-text : (rs : List RangeFields) (bytes rest : List ℕ) (at : ℕ) → list_all are_range_fields rs ≡ true
    → drop at bytes ≡ ranges_text rs ++ rest → ranges_at (length rs) bytes at ≡ runs_of rs
ranges_at-text [] bytes rest at valid here = refl
ranges_at-text (r ∷ rs) bytes rest at valid here =
    let one = left _ _ valid in
    let next = behind bytes (range_text r ++ (ranges_text rs ++ rest)) at here 16 in
    let behind_it = ranges_at-text rs bytes rest (at + 16) (right _ _ valid) next in
    rw (address_of r bytes (ranges_text rs ++ rest) at one here, count_of r bytes (ranges_text rs ++ rest) at one here, behind_it) refl
