-- What `|` and `&` compute on words, and where the fields of a leaf lie.
use Rattle.std.proofs.Common.{◌≡◌, ℕ, ◌+◌, ◌*◌, ◌/◌, ◌%◌, ◌^◌, ◌<◌, Bool, true, false, refl, arith, ◌∙◌, ap}
use Rattle.std.specs.Int.Bits.{bit_and, bit_or}
use Rattle.std.proofs.lemmas.Nat.{or_comm, or_block, or_shifted}
use Rattle.std.proofs.lemmas.Nat.Bits.{and_high}
use Rattle.base.specs.declared.access.Rights.{Rights}
use Rattle.base.specs.declared.access.Rights.TheVariants.{Ro, Rw}
use Rattle.base.specs.declared.access.MemoryKind.{MemoryKind}
use Rattle.base.specs.declared.access.MemoryKind.TheVariants.{Normal, Device}
use Rattle.base.specs.Access.{Access, IsLegal}
use Rattle.words.specs.Words.{type_bits, leaf_fields, leaf_word_of, table_word_of, page_at, access_at}

-- ---- the masks of the fields, `&`

pub and-address : (w : ℕ) → bit_and w 0x7ffffff000 / 2 ^ 12 ≡ page_at w
unfolding page_at
and-address w = rw (and_high w 27 12) (omega arith)

pub and-attributes : (w : ℕ) → bit_and w 0x3c ≡ w / 2 ^ 2 % 2 ^ 4 * 2 ^ 2
and-attributes w = and_high w 4 2

pub and-rights : (w : ℕ) → bit_and w 0xc0 ≡ w / 2 ^ 6 % 2 ^ 2 * 2 ^ 6
and-rights w = and_high w 2 6

pub and-execute_never : (w : ℕ) → bit_and w 0x60_0000_0000_0000 ≡ w / 2 ^ 53 % 2 ^ 2 * 2 ^ 53
and-execute_never w = and_high w 2 53

pub ruleset masks = (and-address, and-attributes, and-rights, and-execute_never)

-- ---- the fields of a leaf

-- they leave bits 38:12 to the address, and tell the leaf's type and access
pub record AreFields (block : Bool) (access : Access) : Type 0 where
  pub apart : leaf_fields block access % 2 ^ 39 < 2 ^ 12
  pub type : leaf_fields block access % 4 ≡ type_bits block
  pub named : access_at (leaf_fields block access) ≡ access

-- there are six accesses, each of a page and of a block
fields-each : (b : Bool) (r : Rights) (x : Bool) (k : MemoryKind) → (x ≡ true → k ≡ Normal) → AreFields b (record { rights = r; exec = x; kind = k })
unfolding leaf_fields access_at
fields-each true Ro true Normal _ = record { apart = omega arith; type = refl; named = refl }
fields-each true Ro false Normal _ = record { apart = omega arith; type = refl; named = refl }
fields-each true Ro false Device _ = record { apart = omega arith; type = refl; named = refl }
fields-each true Rw true Normal _ = record { apart = omega arith; type = refl; named = refl }
fields-each true Rw false Normal _ = record { apart = omega arith; type = refl; named = refl }
fields-each true Rw false Device _ = record { apart = omega arith; type = refl; named = refl }
fields-each false Ro true Normal _ = record { apart = omega arith; type = refl; named = refl }
fields-each false Ro false Normal _ = record { apart = omega arith; type = refl; named = refl }
fields-each false Ro false Device _ = record { apart = omega arith; type = refl; named = refl }
fields-each false Rw true Normal _ = record { apart = omega arith; type = refl; named = refl }
fields-each false Rw false Normal _ = record { apart = omega arith; type = refl; named = refl }
fields-each false Rw false Device _ = record { apart = omega arith; type = refl; named = refl }
fields-each b r true Device legal = let impossible : Device ≡ Normal = legal refl in cc

pub fields : (b : Bool) (p : Access) → IsLegal p → AreFields b p
fields b p legal = fields-each b p.rights p.exec p.kind legal

-- ---- an address and fields, `|`

-- an address shares no bit with fields outside bits 38:12
or-address : (n c : ℕ) → n < 2 ^ 27 → c % 2 ^ 39 < 2 ^ 12 → bit_or (n * 2 ^ 12) c ≡ n * 2 ^ 12 + c
or-address n c in_range apart =
    let high : ℕ = c / 2 ^ 39 * 2 ^ 27 in
    let low : ℕ = c % 2 ^ 39 in
    let address : n * 2 ^ 12 ≡ n * 2 ^ 12 + 0 = omega arith in
    let parts : c ≡ high * 2 ^ 12 + low = omega arith in
    let joined : bit_or (n * 2 ^ 12 + 0) (high * 2 ^ 12 + low) ≡ bit_or n high * 2 ^ 12 + bit_or 0 low = or_block 12 n high 0 low (omega arith) apart in
    let upper : bit_or n high ≡ high + n = or_comm n high ∙ or_shifted (c / 2 ^ 39) 27 n in_range in
    ap (λ a. bit_or a c) address ∙ (ap (bit_or (n * 2 ^ 12 + 0)) parts ∙ (joined ∙ (ap (λ a. a * 2 ^ 12 + low) upper ∙ omega arith)))

pub or-leaf : (b : Bool) (n : ℕ) (p : Access) → n < 2 ^ 27 → IsLegal p → bit_or (n * 2 ^ 12) (leaf_fields b p) ≡ leaf_word_of b n p
unfolding leaf_word_of
or-leaf b n p in_range legal = or-address n (leaf_fields b p) in_range (fields b p legal).apart

pub or-table : (n : ℕ) → n < 2 ^ 27 → bit_or (n * 2 ^ 12) 3 ≡ table_word_of n
unfolding table_word_of
or-table n in_range = or-address n 3 in_range (omega arith)
