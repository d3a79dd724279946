-- A response has one text.
use Rattle.std.proofs.Common.{◌≡◌, ℕ, zero, suc, ◌+◌, ◌*◌, ◌<◌, ◌≤◌, Bool, true, false, ◌||◌, ◌==◌, if◌then◌else◌, List, [], ◌∷◌, ◌++◌, length, drop, slice_index, refl, sym, ap, ◌∙◌, arith}
use Rattle.std.specs.List.{All}
use Rattle.std.proofs.lemmas.Bool.{eqb-true, leb-true}
use Rattle.std.proofs.Math.Seq.{drop-length}
use Rattle.base.specs.declared.partition.Version.{Version}
use Rattle.base.specs.declared.transaction.Kind.TheVariants.{Share, Lend, Donate}
use Rattle.base.specs.Descriptors.Send.{u16_at, u32_at, u64_at, header_size, array_at, receiver_count, composite_at, range_count, ranges_of, ranges_at, pages_in, is_rest_of_header, is_access, are_ranges, is_composite}
use Rattle.base.specs.Descriptors.Response.{kind_bits, kind_named, has_response_layout, is_response_header, is_response, response_of}
use Rattle.base.specs.Descriptors.Encoding.{header_text, access_text, composite_text, runs_text, response_header, response_text}
use Rattle.descw.specs.Laws.{HaveResponsesOneText}
use Rattle.base.proofs.Booleans.{left, right}
use Rattle.descw.proofs.Order.{regroup}
use Rattle.descw.proofs.Parts.{header_cut, access_cut, composite_cut, ranges_cut}

length-ranges_at : (count : ℕ) (bytes : List ℕ) (at : ℕ) → length (ranges_at count bytes at) ≡ count
length-ranges_at zero bytes at = refl
length-ranges_at (suc count) bytes at = ap suc (length-ranges_at count bytes (at + 16))

all_below : (bytes : List ℕ) → All (λ byte. byte < 256) bytes → (i : ℕ) → slice_index bytes i < 256
all_below [] all i = omega arith
all_below (b ∷ bytes) all zero = all 0 0 (omega arith)
all_below (b ∷ bytes) all (suc i) = all_below bytes (λ k d lt. all (suc k) d (omega arith)) i

kind_of_tests : (flags : ℕ) (share lend donate : Bool) → (share ≡ true → flags ≡ 8) → (lend ≡ true → flags ≡ 16) → (donate ≡ true → flags ≡ 24) → (share || lend || donate) ≡ true
    → flags ≡ kind_bits (if share then Share else if lend then Lend else Donate)
kind_of_tests flags true lend donate is_8 is_16 is_24 h = is_8 refl
kind_of_tests flags false true donate is_8 is_16 is_24 h = is_16 refl
kind_of_tests flags false false true is_8 is_16 is_24 h = is_24 refl
kind_of_tests flags false false false is_8 is_16 is_24 h = absurd (cc)

kind_of_flags : (flags : ℕ) → ((flags == 8) || (flags == 16) || (flags == 24)) ≡ true → flags ≡ kind_bits (kind_named flags)
kind_of_flags flags h =
    kind_of_tests flags (flags == 8) (flags == 16) (flags == 24) (eqb-true flags 8) (eqb-true flags 16) (eqb-true flags 24) h

-- what the rules of a response say of its bytes, one by one
record IsRead (version : Version) (bytes : List ℕ) : Type 0 where
  inside : header_size version ≤ length bytes
  one : receiver_count bytes ≡ 1
  array : array_at version bytes ≡ header_size version
  composite : composite_at version bytes ≡ header_size version + 16
  end : length bytes ≡ header_size version + 32 + 16 * range_count version bytes
  attributes : u16_at bytes 2 ≡ 0x2f
  flags : u32_at bytes 4 ≡ kind_bits (kind_named (u32_at bytes 4))
  rest : is_rest_of_header version bytes ≡ true
  access : is_access bytes (header_size version + 16) (header_size version) ≡ true
  ranges : are_ranges (range_count version bytes) bytes (header_size version + 32) ≡ true
  zeros : u64_at bytes (composite_at version bytes + 8) ≡ 0
  sum : pages_in (ranges_of version bytes) ≡ u32_at bytes (composite_at version bytes)

is_read : (version : Version) (bytes : List ℕ) → is_response version bytes ≡ true → IsRead version bytes
unfolding is_response has_response_layout is_response_header is_composite
is_read version bytes h =
    let h1 = left _ _ h in
    let h2 = left _ _ h1 in
    let h3 = left _ _ h2 in
    let h4 = left _ _ h3 in
    let h5 = left _ _ h4 in
    let layout = left _ _ h5 in
    let header = right _ _ h5 in
    let composite = right _ _ h in
    let l1 = left _ _ layout in
    let l2 = left _ _ l1 in
    let l3 = left _ _ l2 in
    let l4 = left _ _ l3 in
    let l5 = left _ _ l4 in
    record {
      inside = leb-true (header_size version) (length bytes) (left _ _ l5);
      one = eqb-true (receiver_count bytes) 1 (right _ _ l5);
      array = eqb-true (array_at version bytes) (header_size version) (right _ _ l4);
      composite = eqb-true (composite_at version bytes) (header_size version + 16) (right _ _ l3);
      end = eqb-true (length bytes) (header_size version + 32 + 16 * range_count version bytes) (right _ _ layout);
      attributes = eqb-true (u16_at bytes 2) 0x2f (left _ _ (left _ _ header));
      flags = kind_of_flags (u32_at bytes 4) (right _ _ (left _ _ header));
      rest = right _ _ header;
      access = right _ _ h3;
      ranges = right _ _ h2;
      zeros = eqb-true (u64_at bytes (composite_at version bytes + 8)) 0 (right _ _ (left _ _ (left _ _ composite)));
      sum = eqb-true (pages_in (ranges_of version bytes)) (u32_at bytes (composite_at version bytes)) (right _ _ (left _ _ composite));
    }

module _ (version : Version) (bytes : List ℕ) (small : (i : ℕ) → slice_index bytes i < 256) (r : IsRead version bytes) where
  header : bytes ≡ header_text version (response_header (response_of version bytes)) 1 ++ drop (header_size version) bytes
  unfolding response_of
  header = header_cut bytes small version (response_header (response_of version bytes)) r.inside refl r.attributes r.flags refl refl r.rest r.one r.array

  access : drop (header_size version) bytes ≡ access_text (header_size version + 16) (response_of version bytes).endpoint ++ drop (header_size version + 16) bytes
  unfolding response_of
  access =
      let end = r.end in
      access_cut bytes small (header_size version + 16) (header_size version) (header_size version + 16) refl (omega arith) r.access

  composite : drop (header_size version + 16) bytes ≡ composite_text (pages_in (ranges_of version bytes)) (length (ranges_of version bytes)) ++ drop (header_size version + 32) bytes
  composite =
      let end = r.end in
      let total = ap (u32_at bytes) (sym r.composite) ∙ sym r.sum in
      let count = ap (λ at. u32_at bytes (at + 4)) (sym r.composite) ∙ sym (length-ranges_at (range_count version bytes) bytes (composite_at version bytes + 16)) in
      let zeros = ap (λ at. u64_at bytes (at + 8)) (sym r.composite) ∙ r.zeros in
      composite_cut bytes small (pages_in (ranges_of version bytes)) (length (ranges_of version bytes)) (header_size version + 16) (header_size version + 32) (omega arith) (omega arith) total count zeros

  ranges : drop (header_size version + 32) bytes ≡ runs_text (ranges_of version bytes) ++ []
  ranges =
      let end = r.end in
      let here : header_size version + 32 ≡ composite_at version bytes + 16 = let c = r.composite in omega arith in
      let cut = ranges_cut bytes small (range_count version bytes) (header_size version + 32) (omega arith) r.ranges in
      let same = ap (λ at. runs_text (ranges_at (range_count version bytes) bytes at) ++ drop (header_size version + 32 + 16 * range_count version bytes) bytes) here in
      let none = ap (λ n. drop n bytes) (sym end) ∙ drop-length bytes in
      cut ∙ same ∙ ap (λ xs. runs_text (ranges_of version bytes) ++ xs) none

  text : bytes ≡ response_text version (response_of version bytes)
  unfolding response_of response_text
  text =
      let h = header_text version (response_header (response_of version bytes)) 1 in
      let a = access_text (header_size version + 16) (response_of version bytes).endpoint in
      let c = composite_text (pages_in (ranges_of version bytes)) (length (ranges_of version bytes)) in
      let behind = access ∙ ap (λ xs. a ++ xs) (composite ∙ ap (λ xs. c ++ xs) ranges) in
      header ∙ ap (λ xs. h ++ xs) behind ∙ sym (regroup h a c (runs_text (ranges_of version bytes)))

pub responses_have_one_text : HaveResponsesOneText
responses_have_one_text version bytes all h = text version bytes (all_below bytes all) (is_read version bytes h)
