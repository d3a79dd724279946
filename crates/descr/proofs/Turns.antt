-- One more turn of the loops over access descriptors and ranges.
use Rattle.std.proofs.Common.{◌≡◌, ℕ, zero, suc, ◌+◌, ◌-◌, ◌<◌, Bool, true, List, [], ◌∷◌, ◌++◌, length, slice_index, refl, sym, ap, ◌∙◌, append_assoc, arith}
use Rattle.std.proofs.lemmas.Bool.{and_parts, leb-true}
use Rattle.descr.specs.Order.{AreAllSome}
use Rattle.base.specs.Descriptors.Send.{Endpoint, u16_at, is_access, are_accesses, is_range, are_ranges, endpoints_at, ranges_at}

pub length-ranges_at : (count : ℕ) (bytes : List ℕ) (at : ℕ) → length (ranges_at count bytes at) ≡ count
length-ranges_at zero bytes at = refl
length-ranges_at (suc count) bytes at = ap suc (length-ranges_at count bytes (at + 16))

module _ (count i : ℕ) (bytes : List ℕ) (at : ℕ) (lt : i < count) where
  next : count - i ≡ suc (count - (i + 1))
  next = omega arith

  pub are_accesses-more : (composite : ℕ) (all : Bool) → is_access bytes composite at ≡ true → are_accesses (count - i) bytes composite at ≡ all → are_accesses (count - (i + 1)) bytes composite (at + 16) ≡ all
  are_accesses-more composite all h so_far =
      let one : are_accesses (count - i) bytes composite at ≡ are_accesses (count - (i + 1)) bytes composite (at + 16) = rw (next, h) refl in
      sym one ∙ so_far

  pub are_ranges-more : (all : Bool) → is_range bytes at ≡ true → are_ranges (count - i) bytes at ≡ all → are_ranges (count - (i + 1)) bytes (at + 16) ≡ all
  are_ranges-more all h so_far =
      let one : are_ranges (count - i) bytes at ≡ are_ranges (count - (i + 1)) bytes (at + 16) = rw (next, h) refl in
      sym one ∙ so_far

  pub endpoints_at-more : (es all : List Endpoint) (e : Endpoint) → e ≡ record { partition = u16_at bytes at; permissions = slice_index bytes (at + 2) }
      → es ++ endpoints_at (count - i) bytes at ≡ all → (es ++ e ∷ []) ++ endpoints_at (count - (i + 1)) bytes (at + 16) ≡ all
  endpoints_at-more es all e is so_far =
      let one : es ++ endpoints_at (count - i) bytes at ≡ es ++ (e ∷ endpoints_at (count - (i + 1)) bytes (at + 16)) = rw (next, is) refl in
      append_assoc es (e ∷ []) (endpoints_at (count - (i + 1)) bytes (at + 16)) ∙ sym one ∙ so_far

-- each of them has a page
pub some-ranges_at : (count : ℕ) (bytes : List ℕ) (at : ℕ) → are_ranges count bytes at ≡ true → AreAllSome (ranges_at count bytes at)
unfolding is_range
some-ranges_at zero bytes at h k d lt = absurd (omega arith)
some-ranges_at (suc count) bytes at h zero d lt =
    let one : is_range bytes at ≡ true = (and_parts _ _ h).0 in
    leb-true _ _ (and_parts _ _ (and_parts _ _ (and_parts _ _ one).0).0).1
some-ranges_at (suc count) bytes at h (suc k) d lt = some-ranges_at count bytes (at + 16) (and_parts _ _ h).1 k d (omega arith)
