-- Bytes are the texts of the numbers that are read from them.
use Rattle.std.proofs.Common.{◌≡◌, ℕ, zero, suc, ◌+◌, ◌<◌, ◌≤◌, List, [], ◌∷◌, ◌++◌, length, take, drop, slice_index, sym, ap, ◌∙◌, arith, length-drop}
use Rattle.std.proofs.lemmas.List.{drop-drop, drop_more, get_or-drop, length-take-le, take-append-drop}
use Rattle.std.proofs.lemmas.Nat.{le_bytes_2, le_bytes_4, le_bytes_8}
use Rattle.std.specs.Int.{w16, w32, w64, from_le_bytes}
use Rattle.byteorder.specs.Endian.{little_number, little_bytes}
use Rattle.byteorder.specs.Numbers.{little_from-take}
use Rattle.base.specs.Descriptors.Send.{u16_at, u32_at, u64_at}

same_2 : (xs : List ℕ) → little_number 2 xs ≡ from_le_bytes w16 xs
same_2 xs = omega arith

same_4 : (xs : List ℕ) → little_number 4 xs ≡ from_le_bytes w32 xs
same_4 xs = omega arith

same_8 : (xs : List ℕ) → little_number 8 xs ≡ from_le_bytes w64 xs
same_8 xs = omega arith

below_take : (n : ℕ) (xs : List ℕ) → ((i : ℕ) → slice_index xs i < 256) → (i : ℕ) → slice_index (take n xs) i < 256
below_take zero xs small i = omega arith
below_take (suc n) [] small i = omega arith
below_take (suc n) (x ∷ xs) small zero = small 0
below_take (suc n) (x ∷ xs) small (suc i) = below_take n xs (λ k. small (suc k)) i

module _ (bytes : List ℕ) (small : (i : ℕ) → slice_index bytes i < 256) (at next : ℕ) where
  below : (i : ℕ) → slice_index (drop at bytes) i < 256
  below i = rw (get_or-drop at bytes i 0) (small (at + i))

  -- the first bytes of what stands at an offset, and what stands behind them
  first : (n : ℕ) (one : List ℕ) → next ≡ at + n → one ≡ take n (drop at bytes) → drop at bytes ≡ one ++ drop next bytes
  first n one is same =
      let rest : drop n (drop at bytes) ≡ drop next bytes = drop-drop n at bytes ∙ ap (λ k. drop k bytes) (sym is) in
      rw (same, ← rest) (sym (take-append-drop n (drop at bytes)))

  len : (n : ℕ) → next ≡ at + n → next ≤ length bytes → length (take n (drop at bytes)) ≡ n
  len n is inside = length-take-le n (drop at bytes) (rw (length-drop at bytes) (omega arith))

  pub byte_cut : (x : ℕ) → next ≡ at + 1 → next ≤ length bytes → slice_index bytes at ≡ x → drop at bytes ≡ x ∷ drop next bytes
  byte_cut x is inside value =
      rw (is, ← value) (drop_more bytes at 0 (omega arith))

  pub u16_cut : (x : ℕ) → next ≡ at + 2 → next ≤ length bytes → u16_at bytes at ≡ x → drop at bytes ≡ little_bytes 2 x ++ drop next bytes
  unfolding u16_at
  u16_cut x is inside value =
      let read = sym value ∙ sym (little_from-take 0 2 2 (drop at bytes) (omega arith)) ∙ same_2 (take 2 (drop at bytes)) in
      first 2 (little_bytes 2 x) is (le_bytes_2 (take 2 (drop at bytes)) x (len 2 is inside) (below_take 2 (drop at bytes) below) read)

  pub u32_cut : (x : ℕ) → next ≡ at + 4 → next ≤ length bytes → u32_at bytes at ≡ x → drop at bytes ≡ little_bytes 4 x ++ drop next bytes
  unfolding u32_at
  u32_cut x is inside value =
      let read = sym value ∙ sym (little_from-take 0 4 4 (drop at bytes) (omega arith)) ∙ same_4 (take 4 (drop at bytes)) in
      first 4 (little_bytes 4 x) is (le_bytes_4 (take 4 (drop at bytes)) x (len 4 is inside) (below_take 4 (drop at bytes) below) read)

  pub u64_cut : (x : ℕ) → next ≡ at + 8 → next ≤ length bytes → u64_at bytes at ≡ x → drop at bytes ≡ little_bytes 8 x ++ drop next bytes
  unfolding u64_at
  u64_cut x is inside value =
      let read = sym value ∙ sym (little_from-take 0 8 8 (drop at bytes) (omega arith)) ∙ same_8 (take 8 (drop at bytes)) in
      first 8 (little_bytes 8 x) is (le_bytes_8 (take 8 (drop at bytes)) x (len 8 is inside) (below_take 8 (drop at bytes) below) read)
