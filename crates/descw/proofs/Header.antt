-- The header's fields are read back.
use Rattle.std.proofs.Common.{◌≡◌, ℕ, ◌+◌, ◌-◌, ◌^◌, ◌<◌, true, List, [], ◌++◌, length, drop, refl, arith}
use Rattle.std.proofs.lemmas.Bool.Decides.{nat_tests}
use Rattle.byteorder.specs.Numbers.{little_number-reads_back}
use Rattle.base.specs.declared.partition.Version.{Version}
use Rattle.base.specs.declared.partition.Version.TheVariants.{V10, V11}
use Rattle.base.specs.Descriptors.Send.{u16_at, u32_at, u64_at, header_size, array_at, receiver_count, are_clear_flags, is_rest_of_header}
use Rattle.base.specs.Descriptors.Permissions.{are_attributes}
use Rattle.base.specs.Descriptors.Encoding.{HeaderFields, header_text}

module _ (version : Version) (h : HeaderFields) (count : ℕ) (rest : List ℕ) where
  pub sender-text : h.sender < 2 ^ 16 → u16_at (header_text version h count ++ rest) 0 ≡ h.sender
  unfolding u16_at
  sender-text fits = little_number-reads_back 2 h.sender [] fits

  pub attributes-text : h.attributes < 2 ^ 16 → u16_at (header_text version h count ++ rest) 2 ≡ h.attributes
  unfolding u16_at
  attributes-text fits = little_number-reads_back 2 h.attributes [] fits

  pub flags-text : h.flags < 2 ^ 32 → u32_at (header_text version h count ++ rest) 4 ≡ h.flags
  unfolding u32_at
  flags-text fits = little_number-reads_back 4 h.flags [] fits

  pub handle-text : h.handle < 2 ^ 64 → u64_at (header_text version h count ++ rest) 8 ≡ h.handle
  unfolding u64_at
  handle-text fits = little_number-reads_back 8 h.handle [] fits

  pub tag-text : h.tag < 2 ^ 64 → u64_at (header_text version h count ++ rest) 16 ≡ h.tag
  unfolding u64_at
  tag-text fits = little_number-reads_back 8 h.tag [] fits

pub count-text : (version : Version) (h : HeaderFields) (count : ℕ) (rest : List ℕ) → count < 2 ^ 32 → receiver_count (header_text version h count ++ rest) ≡ count
unfolding u32_at
count-text V10 h count rest fits = little_number-reads_back 4 count [] fits
count-text V11 h count rest fits = little_number-reads_back 4 count [] fits

pub array-text : (version : Version) (h : HeaderFields) (count : ℕ) (rest : List ℕ) → array_at version (header_text version h count ++ rest) ≡ header_size version
unfolding u32_at
array-text V10 h count rest = refl
array-text V11 h count rest = little_number-reads_back 4 48 [] (omega arith)

pub rest-text : (version : Version) (h : HeaderFields) (count : ℕ) (rest : List ℕ) → is_rest_of_header version (header_text version h count ++ rest) ≡ true
unfolding u32_at u64_at
rest-text V10 h count rest = refl
rest-text V11 h count rest = refl

pub behind-header : (version : Version) (h : HeaderFields) (count : ℕ) (rest : List ℕ) → drop (header_size version) (header_text version h count ++ rest) ≡ rest
behind-header V10 h count rest = refl
behind-header V11 h count rest = refl

pub length-header_text : (version : Version) (h : HeaderFields) (count : ℕ) → length (header_text version h count) ≡ header_size version
length-header_text V10 h count = refl
length-header_text V11 h count = refl

-- attributes that keep their rule fit their bytes
pub attributes_small : (a : ℕ) → are_attributes a ≡ true → a < 2 ^ 16
attributes_small a h = grind (arith, nat_tests)

-- and so do flags that may order a clear
pub clear_flags_small : (flags : ℕ) → are_clear_flags flags ≡ true → flags < 2 ^ 32
clear_flags_small flags h = grind (arith, nat_tests)

-- a header goes on behind its first 16 bytes
pub header_size-rest : (version : Version) → 16 + (header_size version - 16) ≡ header_size version
header_size-rest V10 = refl
header_size-rest V11 = refl
