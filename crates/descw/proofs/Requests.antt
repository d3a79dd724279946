-- The text of a retrieve request, or of a relinquish, whose fields keep the rules spells it.
use Rattle.std.proofs.Common.{◌≡◌, ℕ, ◌+◌, ◌*◌, ◌/◌, ◌%◌, ◌^◌, ◌<◌, true, List, [], ◌++◌, length, drop, slice_index, refl, ap, ◌∙◌, eq-eqb, arith, length-append}
use Rattle.std.proofs.lemmas.Bool.{eqb-true, le-leb}
use Rattle.byteorder.specs.Numbers.{little_number-reads_back}
use Rattle.base.specs.declared.partition.Version.{Version}
use Rattle.base.specs.Descriptors.Send.{u16_at, u32_at, u64_at, header_size, array_at, receiver_count, is_rest_of_header}
use Rattle.base.specs.Descriptors.Permissions.{are_attributes, are_permissions}
use Rattle.base.specs.Descriptors.Retrieve.{are_flags, has_retrieve_layout, is_retrieve_header, is_retrieve, retrieve_of, SpellsRetrieve}
use Rattle.base.specs.Descriptors.Relinquish.{is_relinquish, relinquish_of, SpellsRelinquish}
use Rattle.base.specs.Descriptors.Encoding.{RetrieveFields, RelinquishFields, header_text, access_text, retrieve_text, relinquish_text}
use Rattle.descw.specs.Fields.{are_retrieve_fields, asked_by, are_relinquish_fields, given_up_by}
use Rattle.descw.specs.Inside.{FitsHeader}
use Rattle.base.proofs.Booleans.{and_true, left, right}
use Rattle.descw.proofs.Reading.{byte_behind, u16_here, is_access-text}
use Rattle.descw.proofs.Header.{attributes_small, clear_flags_small, count-text, array-text, rest-text, behind-header, length-header_text, sender-text, attributes-text, flags-text, handle-text, tag-text}

flags_small : (flags : ℕ) → are_flags flags ≡ true → flags < 2 ^ 32
unfolding are_flags
flags_small flags h =
    let same = eqb-true flags (8 * (flags / 8 % 4) + 1024 * (flags / 1024 % 2)) h in
    omega arith

module _ (version : Version) (f : RetrieveFields) (bytes : List ℕ) (parts : bytes ≡ header_text version f.header 1 ++ access_text 0 f.endpoint)
    (fits : FitsHeader f.header) (attributes : are_attributes f.header.attributes ≡ true) (flags : are_flags f.header.flags ≡ true) where
  array : array_at version bytes ≡ header_size version
  array = ap (array_at version) parts ∙ array-text version f.header 1 (access_text 0 f.endpoint)

  at_access : drop (header_size version) bytes ≡ access_text 0 f.endpoint
  at_access = ap (drop (header_size version)) parts ∙ behind-header version f.header 1 (access_text 0 f.endpoint)

  attributes_of : u16_at bytes 2 ≡ f.header.attributes
  attributes_of = ap (λ b. u16_at b 2) parts ∙ attributes-text version f.header 1 (access_text 0 f.endpoint) (attributes_small f.header.attributes attributes)

  flags_of : u32_at bytes 4 ≡ f.header.flags
  flags_of = ap (λ b. u32_at b 4) parts ∙ flags-text version f.header 1 (access_text 0 f.endpoint) (flags_small f.header.flags flags)

  laid_out : has_retrieve_layout version bytes ≡ true
  unfolding has_retrieve_layout
  laid_out =
      let a = array in
      let header = length-header_text version f.header 1 in
      let all = ap length parts ∙ length-append (header_text version f.header 1) (access_text 0 f.endpoint) in
      let inside = le-leb (header_size version) (length bytes) (omega arith) in
      let one = eq-eqb (receiver_count bytes) 1 (ap receiver_count parts ∙ count-text version f.header 1 (access_text 0 f.endpoint) (omega arith)) in
      let behind_it = le-leb (header_size version) (array_at version bytes) (omega arith) in
      let end = eq-eqb (length bytes) (array_at version bytes + 16) (omega arith) in
      and_true _ _ (and_true _ _ (and_true _ _ inside one) behind_it) end

  is_header : is_retrieve_header version bytes ≡ true
  unfolding is_retrieve_header
  is_header =
      let kept : are_attributes (u16_at bytes 2) ≡ true = rw attributes_of attributes in
      let set : are_flags (u32_at bytes 4) ≡ true = rw flags_of flags in
      let rest = ap (is_rest_of_header version) parts ∙ rest-text version f.header 1 (access_text 0 f.endpoint) in
      and_true _ _ (and_true _ _ kept set) rest

  is_retrieve-text : are_permissions f.endpoint.permissions ≡ true → is_retrieve version bytes ≡ true
  unfolding is_retrieve
  is_retrieve-text permitted =
      let access = is_access-text 0 f.endpoint bytes [] (header_size version) at_access (omega arith) permitted in
      and_true _ _ (and_true _ _ laid_out is_header) (rw array access)

  retrieve_of-text : f.endpoint.partition < 2 ^ 16 → asked_by f ≡ retrieve_of version bytes
  unfolding retrieve_of
  retrieve_of-text identifier =
      let sender : u16_at bytes 0 ≡ f.header.sender = ap (λ b. u16_at b 0) parts ∙ sender-text version f.header 1 (access_text 0 f.endpoint) fits.sender in
      let handle : u64_at bytes 8 ≡ f.header.handle = ap (λ b. u64_at b 8) parts ∙ handle-text version f.header 1 (access_text 0 f.endpoint) fits.handle in
      let tag : u64_at bytes 16 ≡ f.header.tag = ap (λ b. u64_at b 16) parts ∙ tag-text version f.header 1 (access_text 0 f.endpoint) fits.tag in
      let partition : u16_at bytes (header_size version) ≡ f.endpoint.partition = u16_here bytes (access_text 0 f.endpoint) (header_size version) at_access ∙ little_number-reads_back 2 f.endpoint.partition [] identifier in
      let permissions : slice_index bytes (header_size version + 2) ≡ f.endpoint.permissions = byte_behind bytes (access_text 0 f.endpoint) (header_size version) at_access 2 in
      rw (array, sender, attributes_of, flags_of, handle, tag, partition, permissions) refl

pub retrieve_text-spells : (version : Version) (f : RetrieveFields) (bytes : List ℕ) → bytes ≡ retrieve_text version f → FitsHeader f.header → f.endpoint.partition < 2 ^ 16
    → are_retrieve_fields f ≡ true → SpellsRetrieve version bytes (asked_by f)
unfolding retrieve_text are_retrieve_fields
retrieve_text-spells version f bytes is fits identifier valid =
    let attributes = left _ _ (left _ _ valid) in
    let flags = right _ _ (left _ _ valid) in
    (is_retrieve-text version f bytes is fits attributes flags (right _ _ valid), retrieve_of-text version f bytes is fits attributes flags identifier)

-- ---- the relinquish

pub relinquish_text-spells : (f : RelinquishFields) (bytes : List ℕ) → bytes ≡ relinquish_text f → f.handle < 2 ^ 64 → f.endpoint < 2 ^ 16
    → are_relinquish_fields f ≡ true → SpellsRelinquish bytes (given_up_by f)
unfolding relinquish_text are_relinquish_fields is_relinquish relinquish_of u16_at u32_at u64_at
relinquish_text-spells f bytes is fits identifier valid =
    let handle = little_number-reads_back 8 f.handle [] fits in
    let flags = little_number-reads_back 4 f.flags [] (clear_flags_small f.flags valid) in
    let endpoint = little_number-reads_back 2 f.endpoint [] identifier in
    rw is (and_true _ true (rw flags valid) refl, rw (handle, flags, endpoint) refl)
