-- A number that stands in a text is read back at its offset.
use Rattle.std.proofs.Common.{◌≡◌, ℕ, ◌+◌, ◌^◌, ◌<◌, true, List, [], ◌++◌, drop, slice_index, sym, ap, ◌∙◌, eq-eqb, arith}
use Rattle.std.proofs.lemmas.List.{drop-drop, get_or-drop}
use Rattle.byteorder.specs.Endian.{little_number}
use Rattle.byteorder.specs.Numbers.{little_number-reads_back}
use Rattle.base.specs.Descriptors.Send.{Endpoint, u16_at, u32_at, u64_at, is_access}
use Rattle.base.specs.Descriptors.Permissions.{are_permissions}
use Rattle.base.specs.Descriptors.Encoding.{access_text}
use Rattle.base.proofs.Booleans.{and_true}

-- what stands at an offset of the bytes
module _ (bytes rest : List ℕ) (at : ℕ) (here : drop at bytes ≡ rest) where
  pub behind : (k : ℕ) → drop (at + k) bytes ≡ drop k rest
  behind k = sym (drop-drop k at bytes) ∙ ap (drop k) here

  pub byte_behind : (k : ℕ) → slice_index bytes (at + k) ≡ slice_index rest k
  byte_behind k = sym (get_or-drop at bytes k 0) ∙ ap (λ xs. slice_index xs k) here

  pub u16_here : u16_at bytes at ≡ little_number 2 rest
  unfolding u16_at
  u16_here = ap (little_number 2) here

  pub u64_here : u64_at bytes at ≡ little_number 8 rest
  unfolding u64_at
  u64_here = ap (little_number 8) here

  pub u32_here : u32_at bytes at ≡ little_number 4 rest
  unfolding u32_at
  u32_here = ap (little_number 4) here

  pub u32_behind : (k : ℕ) → u32_at bytes (at + k) ≡ little_number 4 (drop k rest)
  unfolding u32_at
  u32_behind k = ap (little_number 4) (behind k)

  pub u64_behind : (k : ℕ) → u64_at bytes (at + k) ≡ little_number 8 (drop k rest)
  unfolding u64_at
  u64_behind k = ap (little_number 8) (behind k)

module _ (composite : ℕ) (e : Endpoint) (bytes rest : List ℕ) (at : ℕ) (here : drop at bytes ≡ access_text composite e ++ rest) where
  pub is_access-text : composite < 2 ^ 32 → are_permissions e.permissions ≡ true → is_access bytes composite at ≡ true
  unfolding is_access
  is_access-text fits permitted =
      let all = access_text composite e ++ rest in
      let permissions : slice_index bytes (at + 2) ≡ e.permissions = byte_behind bytes all at here 2 in
      let reserved : slice_index bytes (at + 3) ≡ 0 = byte_behind bytes all at here 3 in
      let points : u32_at bytes (at + 4) ≡ composite = u32_behind bytes all at here 4 ∙ little_number-reads_back 4 composite [] fits in
      let zeros : u64_at bytes (at + 8) ≡ 0 = u64_behind bytes all at here 8 ∙ little_number-reads_back 8 0 [] (omega arith) in
      and_true _ _ (and_true _ _ (and_true _ _ (rw permissions permitted) (eq-eqb _ _ reserved)) (eq-eqb _ _ points)) (eq-eqb _ _ zeros)
